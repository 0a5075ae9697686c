-- How a word's digits spell its number, digit by digit.
use Rattle.std.proofs.Common.{◌≡◌, ℕ, suc, ◌+◌, ◌-◌, ◌*◌, ◌^◌, ◌<◌, ◌≤◌, Bool, true, false, if◌then◌else◌, List, [], ◌∷◌, Option, Some, None, length, get_or, take, drop, refl, ap, sym, ◌∙◌, subst, arith}
use Rattle.std.proofs.Math.Nat.{pow-le-pow_right, pow-suc, pow-zero}
use Rattle.std.specs.Prelude.{nat_le}
use Rattle.std.specs.Option.{option_and_then}
use Rattle.std.proofs.lemmas.Bool.Decides.{nat_tests}
use Rattle.std.proofs.lemmas.List.{take_rest}
use Rattle.text_script.specs.ScriptWords.{most_number, number_of_digits, spelled_after, up_to}
use Rattle.text_io.specs.Words.{is_digit}
use Rattle.text_script.specs.inner.Digits.{with_digit}

-- The number that the octets spell after digits with this value.
abbrev pub number_after : ℕ → List ℕ → Option ℕ
number_after high octets = option_and_then (up_to most_number) (spelled_after high octets)

le-false : (n m : ℕ) → m < n → nat_le n m ≡ false
le-false n m above = grind (arith, nat_tests)

larger : (n m : ℕ) → nat_le n m ≡ false → m < n
larger n m e = grind (arith, nat_tests)

-- A value that is too large remains too large.
too_large : (high : ℕ) (octets : List ℕ) → most_number < high → number_after high octets ≡ None
unfolding spelled_after
too_large high [] above = ap (λ b. if b then Some high else None) (le-false high most_number above)
too_large high (octet ∷ rest) above =
    elim (is_digit octet) as (λ t. option_and_then (up_to most_number) (if t then spelled_after (high * 10 + (octet - 48)) rest else None) ≡ None)
    [ true ↦ too_large (high * 10 + (octet - 48)) rest (omega arith) | false ↦ refl ]

within-or : (n : ℕ) (rest : List ℕ) (b : Bool) → nat_le n most_number ≡ b
    → number_after n rest ≡ option_and_then (λ next. number_after next rest) (if b then Some n else None)
within-or n rest true e = refl
within-or n rest false e = too_large n rest (larger n most_number e)

-- One more digit.
digit_more : (high octet : ℕ) (rest : List ℕ) → number_after high (octet ∷ rest) ≡ option_and_then (λ next. number_after next rest) (with_digit high octet)
unfolding spelled_after
digit_more high octet rest =
    elim (is_digit octet) as (λ t. option_and_then (up_to most_number) (if t then spelled_after (high * 10 + (octet - 48)) rest else None)
    ≡ option_and_then (λ next. number_after next rest) (if t then up_to most_number (high * 10 + (octet - 48)) else None))
    [ true ↦ within-or (high * 10 + (octet - 48)) rest (nat_le (high * 10 + (octet - 48)) most_number) refl | false ↦ refl ]

-- One more of the remaining digits.
pub number_goes_on : (high next : ℕ) (octets : List ℕ) → 1 ≤ length octets → with_digit high (get_or octets 0 0) ≡ Some next
    → number_after next (take (length octets - 1) (drop 1 octets)) ≡ number_after high octets
number_goes_on high next [] some e = absurd (omega arith)
number_goes_on high next (octet ∷ rest) some e =
    ap (λ xs. number_after next xs) (take_rest (octet ∷ rest) 1)
    ∙ sym (digit_more high octet rest ∙ ap (λ o. option_and_then (λ n. number_after n rest) o) e)

-- No digit, or one that makes the value too large.
pub number_stops : (high : ℕ) (octets : List ℕ) → 1 ≤ length octets → with_digit high (get_or octets 0 0) ≡ None → number_after high octets ≡ None
number_stops high [] some e = absurd (omega arith)
number_stops high (octet ∷ rest) some e = digit_more high octet rest ∙ ap (λ o. option_and_then (λ n. number_after n rest) o) e

-- The end of the digits.
pub number_ends : (value : ℕ) (octets : List ℕ) → length octets < 1 → value ≤ most_number → number_after value octets ≡ Some value
unfolding spelled_after
number_ends value [] none within =
    let test : nat_le value most_number ≡ true = grind (arith, nat_tests) in
    ap (λ b. if b then Some value else None) test
number_ends value (octet ∷ rest) none within = absurd (omega arith)

-- Before the first digit.
pub number_begins : (word : List ℕ) → 0 < length word → number_after 0 word ≡ number_of_digits word
number_begins [] some = absurd (omega arith)
number_begins (octet ∷ rest) some = refl

-- A value with one more digit is small enough.
some-within : (n m : ℕ) (b : Bool) → nat_le n most_number ≡ b → (if b then Some n else None) ≡ Some m → m ≤ most_number
some-within n m true e same = let equal : n ≡ m = cc in grind (arith, nat_tests)
some-within n m false e same = cc

pub shifted-within : (high octet next : ℕ) → with_digit high octet ≡ Some next → next ≤ most_number
shifted-within high octet next =
    elim (is_digit octet) as (λ t. (if t then up_to most_number (high * 10 + (octet - 48)) else None) ≡ Some next → next ≤ most_number)
    [ true ↦ λ e. some-within (high * 10 + (octet - 48)) next (nat_le (high * 10 + (octet - 48)) most_number) refl e | false ↦ λ e. cc ]

-- A test that gives a number gives the tested one.
some-same : (n m : ℕ) (b : Bool) → (if b then Some n else None) ≡ Some m → m ≡ n
some-same n m true e = cc
some-same n m false e = cc

digit-most-at : (high octet next : ℕ) (b : Bool) → is_digit octet ≡ b
    → (if b then up_to most_number (high * 10 + (octet - 48)) else None) ≡ Some next → next ≤ high * 10 + 9
digit-most-at high octet next true e same =
    let small : octet ≤ 57 = grind (arith, nat_tests) in
    let equal = some-same (high * 10 + (octet - 48)) next (nat_le (high * 10 + (octet - 48)) most_number) same in
    omega (arith, small, equal)
digit-most-at high octet next false e same = cc

pub digit-most : (high octet next : ℕ) → with_digit high octet ≡ Some next → next ≤ high * 10 + 9
digit-most high octet next same = digit-most-at high octet next (is_digit octet) refl same

-- A value of at most eighteen digits has room for one more.
pub few-within : (value count left : ℕ) → 1 ≤ left → left ≤ count → count ≤ 19 → value < 10 ^ (count - left) → value ≤ 1844674407370955160
few-within value count left some within few below =
    let read : count - left ≤ 18 = omega arith in
    let most : 10 ^ (count - left) ≤ 10 ^ 18 = pow-le-pow_right {n = 10} (omega arith) read in
    let is : 10 ^ 18 ≡ 1000000000000000000 = refl in
    omega (arith, most, is, below)

-- Before the first digit the value is 0.
pub few-begins : (count : ℕ) → 0 < 10 ^ (count - count)
few-begins count =
    let none : 0 ≡ count - count = omega arith in
    subst (λ k. 0 < 10 ^ k) none (omega (arith, pow-zero 10))

-- After at most nineteen digits the value isn't too large.
pub few-ends : (value count left : ℕ) → count ≤ 19 → value < 10 ^ (count - left) → value ≤ most_number
few-ends value count left few below =
    let read : count - left ≤ 19 = omega arith in
    let most : 10 ^ (count - left) ≤ 10 ^ 19 = pow-le-pow_right {n = 10} (omega arith) read in
    let is : 10 ^ 19 ≡ 10000000000000000000 = refl in
    omega (arith, most, is, below)

few-more : (value next count left : ℕ) → suc left ≤ count → value < 10 ^ (count - suc left) → next ≤ value * 10 + 9 → next < 10 ^ (count - left)
few-more value next count left within below most =
    let one : suc (count - suc left) ≡ count - left = omega arith in
    let tens = pow-suc 10 (count - suc left) in
    let above : next < 10 ^ suc (count - suc left) = omega (arith, tens, below, most) in
    subst (λ k. next < 10 ^ k) one above

-- One more digit leaves the value below the next power of ten.
pub few-goes_on : (value next count : ℕ) (octets : List ℕ) → 1 ≤ length octets → length octets ≤ count → value < 10 ^ (count - length octets)
    → next ≤ value * 10 + 9 → next < 10 ^ (count - length (take (length octets - 1) (drop 1 octets)))
few-goes_on value next count [] some within below most = absurd (omega arith)
few-goes_on value next count (octet ∷ rest) some within below most =
    subst (λ xs. next < 10 ^ (count - length xs)) (sym (take_rest (octet ∷ rest) 1)) (few-more value next count (length rest) within below most)
