-- The words of a cell line, and their command.
use Rattle.std.proofs.Common.{◌≡◌, ℕ, zero, suc, ◌+◌, ◌-◌, ◌*◌, ◌<◌, true, false, if◌then◌else◌, List, [], ◌∷◌, ◌++◌, Option, Some, None, length, get_or, refl, ap, ◌∙◌, arith, codes}
use Rattle.std.proofs.lemmas.Bool.Decides.{nat_tests}
use Rattle.std.specs.Option.{option_and_then}
use Rattle.text_io.specs.Words.{is_blank, is_silent, words_of, is_digit}
use Rattle.text_io.proofs.Public.{first-word, one-word}
use Rattle.text_words.specs.CellWord.{IsCellWord}
use Rattle.text_words.specs.declared.hexadecimal.CellWord.TheVariants.{OfCell}
use Rattle.text_words.proofs.Public.{cell-visible}
use Rattle.text_script.specs.ScriptWords.{most_number, number_of_digits, spelled_after, up_to}
use Rattle.text_script.specs.inner.SpelledCell.{SpellsCell}

-- A digit is not blank.
digit-visible : (octet : ℕ) → is_digit octet ≡ true → is_blank octet ≡ false
digit-visible octet digit = grind (arith, nat_tests)

at-place : (octet : ℕ) (octets : List ℕ) → is_blank octet ≡ false → ((k : ℕ) → k < length octets → is_blank (get_or octets k 0) ≡ false)
    → (k : ℕ) → k < length (octet ∷ octets) → is_blank (get_or (octet ∷ octets) k 0) ≡ false
at-place octet octets first later zero below = first
at-place octet octets first later (suc k) below = later k (omega arith)

-- No octet of a number is blank.
digits-visible : (high : ℕ) (octets : List ℕ) (value : ℕ) → spelled_after high octets ≡ Some value
    → (k : ℕ) → k < length octets → is_blank (get_or octets k 0) ≡ false
unfolding spelled_after
digits-visible high [] value e k below = absurd (omega arith)
digits-visible high (octet ∷ octets) value e k below =
    elim (is_digit octet) as (λ t. is_digit octet ≡ t → (if t then spelled_after (high * 10 + (octet - 48)) octets else None) ≡ Some value
    → is_blank (get_or (octet ∷ octets) k 0) ≡ false) [
      | true ↦ λ digit spelled.
          at-place octet octets (digit-visible octet digit) (λ n under. digits-visible (high * 10 + (octet - 48)) octets value spelled n under) k below
      | false ↦ λ other spelled. absurd (cc)
    ] refl e

value-spelled : (found : Option ℕ) (value : ℕ) → option_and_then (up_to most_number) found ≡ Some value → (spelled : ℕ) × (found ≡ Some spelled)
value-spelled None value e = absurd (cc)
value-spelled (Some spelled) value e = (spelled, refl)

number-visible : (word : List ℕ) (value : ℕ) → number_of_digits word ≡ Some value
    → (0 < length word) × ((k : ℕ) → k < length word → is_blank (get_or word k 0) ≡ false)
number-visible [] value e = absurd (cc)
number-visible (octet ∷ octets) value e =
    let found = value-spelled (spelled_after 0 (octet ∷ octets)) value e in
    (omega arith, λ k below. digits-visible 0 (octet ∷ octets) found.0 found.1 k below)

command-visible : (k : ℕ) → k < length (codes "cell") → is_blank (get_or (codes "cell") k 0) ≡ false
command-visible zero below = refl
command-visible (suc zero) below = refl
command-visible (suc (suc zero)) below = refl
command-visible (suc (suc (suc zero))) below = refl
command-visible (suc (suc (suc (suc k)))) below = absurd (omega arith)

-- A line that begins as a cell line isn't silent.
pub command-asks : (line rest : List ℕ) → line ≡ codes "cell " ++ rest → is_silent (words_of line) ≡ false
command-asks line rest is =
    ap (λ octets. is_silent (words_of octets)) is ∙ ap is_silent (first-word (codes "cell") rest 32 (omega arith) command-visible refl)

-- One space between the words.
pub cell-line : (line number word : List ℕ) (moment : ℕ) (here : List ℕ) → line ≡ codes "cell " ++ (number ++ 32 ∷ word)
    → number_of_digits number ≡ Some moment → IsCellWord word (OfCell here) → SpellsCell line moment here
cell-line line number word moment here is reads spells =
    let last = cell-visible word here spells in
    let middle = number-visible number moment reads in
    let words : words_of (codes "cell" ++ 32 ∷ (number ++ 32 ∷ word)) ≡ codes "cell" ∷ number ∷ word ∷ [] =
    first-word (codes "cell") (number ++ 32 ∷ word) 32 (omega arith) command-visible refl
    ∙ ap (λ later. codes "cell" ∷ later) (first-word number word 32 middle.0 middle.1 refl
    ∙ ap (λ later. number ∷ later) (one-word word last.0 last.1)) in
    (number, word, ap words_of is ∙ words, reads, spells)
