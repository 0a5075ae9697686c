-- How `setup` reads what is printed of a contract.
use Rattle.std.proofs.Common.{◌≡◌, ◌∙◌, ℕ, ◌+◌, ◌-◌, ◌*◌, ◌^◌, ◌<◌, ◌≤◌, ◌==◌, nat_le, if◌then◌else◌, true, false, List, [], ◌∷◌, ◌++◌, Option, None, Some, codes, decimal, length, option_map, refl, ap, arith, subst, sym, ◌⊎◌, inl, inr}
use Rattle.std.proofs.lemmas.Bool.Decides.{nat_tests}
use Rattle.std.proofs.lemmas.Fmt.{decimal_is_IsNumeral}
use Rattle.std.proofs.lemmas.Str.{digit_value_digit}
use Rattle.std.proofs.lemmas.Str.Parse.{digit_from_value}
use Rattle.std.specs.Char.{digit_value}
use Rattle.std.specs.Option.{option_and_then}
use Rattle.std.specs.Str.Parse.{AllDigits, digits_value, digits_value_after}
use Rattle.text_io.specs.Words.{is_digit}
use Rattle.text_script.specs.ScriptWords.{cut_at, most_number, number_of_digits, rate_of, rate_with, spelled_after, two_rates, up_to, wanted_of, with_both}
use Rattle.text_script.specs.declared.script_words.Rate.{Rate}
use Rattle.text_script.specs.declared.script_words.Wanted.{Wanted}
use Rattle.text_script.specs.declared.script_words.Wanted.TheVariants as asked
use Rattle.cmd_size.specs.SetupReading.{script_vbr}
use Rattle.cmd_size.specs.SizeText.{vbr_name}
use Rattle.cmd_size.specs.declared.figures.VbrKind.{VbrKind}
use Rattle.cmd_size.specs.declared.figures.VbrKind.TheVariants.{Vbr1, Vbr2, Vbr3}

spelled-digits_after : (high : ℕ) (digits : List ℕ) → AllDigits 10 digits → spelled_after high digits ≡ Some (digits_value_after 10 high digits)
unfolding spelled_after
spelled-digits_after high [] all = refl
spelled-digits_after high (octet ∷ octets) all =
    let range = digit_from_value octet all.0 in
    let test : is_digit octet ≡ true = grind (arith, nat_tests, range) in
    let value : octet - 48 ≡ digit_value octet = omega (arith, digit_value_digit octet range) in
    ap (λ b. if b then spelled_after (high * 10 + (octet - 48)) octets else None) test
    ∙ ap (λ d. spelled_after (high * 10 + d) octets) value ∙ spelled-digits_after (high * 10 + digit_value octet) octets all.1

within-most : (number : ℕ) → number ≤ most_number → up_to most_number number ≡ Some number
within-most number within =
    let test : nat_le number most_number ≡ true = grind (arith, nat_tests) in ap (λ b. if b then Some number else None) test

number-of_digits : (digits : List ℕ) (number : ℕ) → 0 < length digits → AllDigits 10 digits → digits_value 10 digits ≡ number → number ≤ most_number
    → number_of_digits digits ≡ Some number
number-of_digits [] number some all is within = absurd (omega arith)
number-of_digits (octet ∷ octets) number some all is within =
    ap (λ found. option_and_then (up_to most_number) found) (spelled-digits_after 0 (octet ∷ octets) all)
    ∙ ap (up_to most_number) is ∙ within-most number within

number-of_decimal : (number : ℕ) → number ≤ 2 ^ 48 → number_of_digits (decimal number) ≡ Some number
number-of_decimal number within =
    let is = decimal_is_IsNumeral number (omega arith) in
    number-of_digits (decimal number) number is.0.0 is.0.1 is.1 (omega arith)

-- No octet is the mark.
abbrev pub IsFree : ℕ → List ℕ → Type 0
IsFree mark [] = Unit {0}
IsFree mark (octet ∷ octets) = ((octet == mark) ≡ false) × IsFree mark octets

digits-free : (mark : ℕ) (digits : List ℕ) → (mark < 48) ⊎ (57 < mark) → AllDigits 10 digits → IsFree mark digits
digits-free mark [] other all = tt
digits-free mark (octet ∷ octets) other all =
    let range = digit_from_value octet all.0 in
    let apart : (octet == mark) ≡ false = elim other [ inl low ↦ grind (arith, nat_tests, range) | inr high ↦ grind (arith, nat_tests, range) ] in
    (apart, digits-free mark octets other all.1)

free-append : (mark : ℕ) (front rest : List ℕ) → IsFree mark front → IsFree mark rest → IsFree mark (front ++ rest)
free-append mark [] rest none more = more
free-append mark (octet ∷ octets) rest none more = (none.0, free-append mark octets rest none.1 more)

abbrev Cut : Type 0
Cut = List ℕ × List ℕ

cut-at_mark : (mark : ℕ) (front rest : List ℕ) → (mark == mark) ≡ true → IsFree mark front → cut_at mark (front ++ mark ∷ rest) ≡ Some (front, rest)
unfolding cut_at
cut-at_mark mark [] rest same none = ap (λ b. if b then Some ([], rest) else option_map (λ (c : Cut). (mark ∷ c.0, c.1)) (cut_at mark rest)) same
cut-at_mark mark (octet ∷ octets) rest same none =
    ap (λ b. if b then Some ([], octets ++ mark ∷ rest) else option_map (λ (c : Cut). (octet ∷ c.0, c.1)) (cut_at mark (octets ++ mark ∷ rest))) none.0
    ∙ ap (λ o. option_map (λ (c : Cut). (octet ∷ c.0, c.1)) o) (cut-at_mark mark octets rest same none.1)

slash-first : (rest : List ℕ) → codes "/" ++ rest ≡ 47 ∷ rest
slash-first rest = refl

-- A bucket is read as it is printed.
pub rate-read : (increment limit : ℕ) → increment ≤ 2 ^ 48 → limit ≤ 2 ^ 48
    → rate_of (decimal increment ++ (codes "/" ++ decimal limit)) ≡ Some (rate_with increment limit)
rate-read increment limit few within =
    let is = decimal_is_IsNumeral increment (omega arith) in
    let cut = cut-at_mark 47 (decimal increment) (decimal limit) refl (digits-free 47 (decimal increment) (inl (omega arith)) is.0.1) in
    ap (λ rest. rate_of (decimal increment ++ rest)) (slash-first (decimal limit))
    ∙ ap (λ (found : Option Cut). option_and_then (λ (cut : Cut). with_both rate_with (number_of_digits cut.0) (number_of_digits cut.1)) found) cut
    ∙ ap (λ found. with_both rate_with found (number_of_digits (decimal limit))) (number-of_decimal increment few)
    ∙ ap (λ found. with_both rate_with (Some increment) found) (number-of_decimal limit within)

-- It has no colon.
pub bucket-free : (increment limit : ℕ) → increment ≤ 2 ^ 48 → limit ≤ 2 ^ 48 → IsFree 58 (decimal increment ++ (codes "/" ++ decimal limit))
bucket-free increment limit few within =
    let one = decimal_is_IsNumeral increment (omega arith) in
    let other = decimal_is_IsNumeral limit (omega arith) in
    subst (λ rest. IsFree 58 (decimal increment ++ rest)) (sym (slash-first (decimal limit)))
    (free-append 58 (decimal increment) (47 ∷ decimal limit) (digits-free 58 (decimal increment) (inr (omega arith)) one.0.1)
    (refl, digits-free 58 (decimal limit) (inr (omega arith)) other.0.1))

-- A colon follows.
colon-first : (rest : List ℕ) → codes ":" ++ rest ≡ 58 ∷ rest
colon-first rest = refl

-- Two buckets with a colon between them.
pub rates-read : (kind : Rate → Rate → Wanted) (peak sustained : List ℕ) (one other : Rate) → IsFree 58 peak → rate_of peak ≡ Some one → rate_of sustained ≡ Some other
    → two_rates kind (peak ++ (codes ":" ++ sustained)) ≡ Some (kind one other)
rates-read kind peak sustained one other none first second =
    ap (λ rest. two_rates kind (peak ++ rest)) (colon-first sustained)
    ∙ ap (λ (found : Option Cut). option_and_then (λ (cut : Cut). with_both kind (rate_of cut.0) (rate_of cut.1)) found) (cut-at_mark 58 peak sustained refl none)
    ∙ ap (λ found. with_both kind found (rate_of sustained)) first
    ∙ ap (λ found. with_both kind (Some one) found) second

-- The name of a kind is cut off, and the rest is read by it.
pub cbr1-read : (rest : List ℕ) → wanted_of (codes "cbr1:" ++ rest) ≡ option_map (λ rate. asked.Cbr1 rate) (rate_of rest)
unfolding cut_at
cbr1-read rest = refl

pub vbr-read : (kind : VbrKind) (rest : List ℕ) → wanted_of (vbr_name kind ++ rest) ≡ two_rates (λ peak sustained. script_vbr kind peak sustained) rest
unfolding cut_at
vbr-read Vbr1 rest = refl
vbr-read Vbr2 rest = refl
vbr-read Vbr3 rest = refl
