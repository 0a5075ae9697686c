-- The words that are found are those of the line.
use Rattle.std.proofs.Common.{◌≡◌, ℕ, ◌+◌, ◌-◌, ◌&&◌, suc, Bool, true, false, not, if◌then◌else◌, List, [], ◌∷◌, ◌++◌, map, filter, take, drop, refl, sym, ap, ◌∙◌, arith}
use Rattle.std.proofs.lemmas.List.{drop-drop}
use Rattle.text_io.specs.Words.{is_blank, is_filled, part_begun_with, parts_of}
use Rattle.cmd_explain_script.specs.FoundWords.{FindsWords, found_words, word_octets, word_size, words_from}
use Rattle.cmd_explain_script.specs.declared.found_words.FoundWord.{FoundWord}

abbrev parts_after : List (List ℕ) → List (List ℕ)
parts_after [] = []
parts_after (part ∷ parts) = parts

-- The parts that begin after the octet before, which is inside of a word or not.
abbrev left_parts : Bool → List (List ℕ) → List (List ℕ)
left_parts true parts = parts_after parts
left_parts false parts = parts

take_one : (n octet : ℕ) (rest : List ℕ) → take (1 + n) (octet ∷ rest) ≡ octet ∷ take n rest
take_one n octet rest = let e : 1 + n ≡ suc n = omega arith in ap (λ (k : ℕ). take k (octet ∷ rest)) e

-- The first part of octets is the word that they begin with.
first_by : (b : Bool) (octet : ℕ) (rest : List ℕ) → ((parts : List (List ℕ)) × (parts_of rest ≡ take (word_size rest) rest ∷ parts))
    → (parts : List (List ℕ))
    × ((if b then [] ∷ parts_of rest else part_begun_with octet (parts_of rest)) ≡ take (if b then 0 else 1 + word_size rest) (octet ∷ rest) ∷ parts)
first_by true octet rest first = (parts_of rest, refl)
first_by false octet rest first = (
  first.0,
  ap (part_begun_with octet) first.1 ∙ ap (λ (xs : List ℕ). xs ∷ first.0) (sym (take_one (word_size rest) octet rest)),
)

first_part : (octets : List ℕ) → (parts : List (List ℕ)) × (parts_of octets ≡ take (word_size octets) octets ∷ parts)
first_part [] = ([], refl)
first_part (octet ∷ rest) = first_by (is_blank octet) octet rest (first_part rest)

module _ (line : List ℕ) where
  abbrev here : Bool → Bool → ℕ → ℕ → List ℕ → List FoundWord
  here inside b place octet rest =
      if not inside && not b then record { column = place + 1; size = if b then 0 else 1 + word_size rest } ∷ [] else []

  found_by : (inside b : Bool) (place octet : ℕ) (rest : List ℕ) → drop place line ≡ octet ∷ rest
      → map (word_octets line) (words_from (place + 1 + 1) (not b) rest) ≡ filter is_filled (left_parts (not b) (parts_of rest))
      → map (word_octets line) (here inside b place octet rest ++ words_from (place + 1 + 1) (not b) rest)
      ≡ filter is_filled (left_parts inside (if b then [] ∷ parts_of rest else part_begun_with octet (parts_of rest)))
  found_by true true place octet rest is later = later
  found_by false true place octet rest is later = later
  found_by true false place octet rest is later =
      let first = first_part rest in
      later ∙ ap (λ (ps : List (List ℕ)). filter is_filled (parts_after ps)) first.1
      ∙ sym (ap (λ (ps : List (List ℕ)). filter is_filled (parts_after (part_begun_with octet ps))) first.1)
  found_by false false place octet rest is later =
      let first = first_part rest in
      let back : place + 1 - 1 ≡ place = omega arith in
      let word : take (1 + word_size rest) (drop (place + 1 - 1) line) ≡ octet ∷ take (word_size rest) rest =
      ap (λ (n : ℕ). take (1 + word_size rest) (drop n line)) back ∙ ap (λ (xs : List ℕ). take (1 + word_size rest) xs) is ∙ take_one (word_size rest) octet rest in
      ap (λ (xs : List ℕ). xs ∷ map (word_octets line) (words_from (place + 1 + 1) true rest)) word
      ∙ ap (λ (xs : List (List ℕ)). (octet ∷ take (word_size rest) rest) ∷ xs) (later ∙ ap (λ (ps : List (List ℕ)). filter is_filled (parts_after ps)) first.1)
      ∙ sym (ap (λ (ps : List (List ℕ)). filter is_filled (part_begun_with octet ps)) first.1)

  found_from : (octets : List ℕ) (place : ℕ) (inside : Bool) → drop place line ≡ octets
      → map (word_octets line) (words_from (place + 1) inside octets) ≡ filter is_filled (left_parts inside (parts_of octets))
  found_from [] place true is = refl
  found_from [] place false is = refl
  found_from (octet ∷ rest) place inside is =
      found_by inside (is_blank octet) place octet rest is
      (found_from rest (place + 1) (not (is_blank octet)) (sym (drop-drop 1 place line) ∙ ap (λ (xs : List ℕ). drop 1 xs) is))

pub finds_words : FindsWords
unfolding found_words
finds_words line = found_from line line 0 false refl
