-- A cell line in the common form is cut in one way.
use Rattle.std.proofs.Common.{◌≡◌, ℕ, suc, ◌+◌, ◌-◌, ◌<◌, inl, inr, false, List, ◌∷◌, ◌++◌, Option, Some, None, length, get_or, take, sym, ap, ◌∙◌, arith, codes}
use Rattle.std.proofs.lemmas.List.{append_cancel_left, get_or-append-add, length-append}
use Rattle.std.proofs.Math.Seq.{get_or-append_seam, take-append_seam}
use Rattle.std.specs.Option.{IfNone}
use Rattle.text_io.specs.Words.{is_blank}
use Rattle.text_words.specs.CellWord.{IsCellWord}
use Rattle.text_words.specs.declared.hexadecimal.CellWord.TheVariants.{OfCell}
use Rattle.text_words.proofs.Public.{cell-lengths, cell-visible}
use Rattle.text_script.specs.ScriptWords.{number_of_digits}
use Rattle.text_script.specs.CommonLine.{IsCommonLine}

-- Two cuts of a text with equally many octets after them are the same.
one-cut : (before last front word : List ℕ) → before ++ 32 ∷ last ≡ front ++ 32 ∷ word → length last ≡ length word
    → (before ≡ front) × (last ≡ word)
one-cut before last front word same long =
    let left = length-append before (32 ∷ last) in
    let right = length-append front (32 ∷ word) in
    let lengths : length (before ++ 32 ∷ last) ≡ length (front ++ 32 ∷ word) = ap length same in
    let alike : length before ≡ length front = omega (arith, left, right, lengths, long) in
    let first : before ≡ front =
    sym (take-append_seam before (32 ∷ last)) ∙ ap (take (length before)) same ∙ ap (λ n. take n (front ++ 32 ∷ word)) alike
    ∙ take-append_seam front (32 ∷ word) in
    let after : 32 ∷ last ≡ 32 ∷ word = append_cancel_left before (32 ∷ last) (32 ∷ word) (same ∙ ap (λ beginning. beginning ++ 32 ∷ word) (sym first)) in
    (first, cc)

-- A word without blanks is not cut.
not-within : (before last front word : List ℕ) → before ++ 32 ∷ last ≡ front ++ 32 ∷ word → length last < length word
    → ((k : ℕ) → k < length word → is_blank (get_or word k 0) ≡ false) → ⊥
not-within before last front word same shorter visible =
    let k : ℕ = length word - suc (length last) in
    let left = length-append before (32 ∷ last) in
    let right = length-append front (32 ∷ word) in
    let lengths : length (before ++ 32 ∷ last) ≡ length (front ++ 32 ∷ word) = ap length same in
    let place : length before ≡ length front + suc k = omega (arith, left, right, lengths, shorter) in
    let here : get_or (before ++ 32 ∷ last) (length before) 0 ≡ 32 = get_or-append_seam before 32 last 0 in
    let there : get_or (front ++ 32 ∷ word) (length front + suc k) 0 ≡ get_or word k 0 = get_or-append-add front (32 ∷ word) (suc k) 0 in
    let space : get_or word k 0 ≡ 32 =
    sym there ∙ ap (λ n. get_or (front ++ 32 ∷ word) n 0) (sym place) ∙ ap (λ (text : List ℕ). get_or text (length before) 0) (sym same) ∙ here in
    let seen : is_blank 32 ≡ false = ap is_blank (sym space) ∙ visible k (omega (arith, shorter)) in
    absurd (cc)

-- The text after the command.
after : (line rest : List ℕ) (moment : ℕ) (cell : List ℕ) → line ≡ codes "cell " ++ rest → (is : IsCommonLine line moment cell)
    → rest ≡ is.0 ++ 32 ∷ is.1
after line rest moment cell here is = append_cancel_left (codes "cell ") rest (is.0 ++ 32 ∷ is.1) (sym here ∙ is.2)

-- If there is a space before the last eight octets, they are the word.
pub common-header : (line rest before last : List ℕ) (moment : ℕ) (cell : List ℕ) → line ≡ codes "cell " ++ rest → rest ≡ before ++ 32 ∷ last
    → length last ≡ 8 → IsCommonLine line moment cell → (number_of_digits before ≡ Some moment) × IsCellWord last (OfCell cell)
common-header line rest before last moment cell here cut long is =
    let number : List ℕ = is.0 in
    let word : List ℕ = is.1 in
    let spells : IsCellWord word (OfCell cell) = is.4 in
    let same : before ++ 32 ∷ last ≡ number ++ 32 ∷ word = sym cut ∙ after line rest moment cell here is in
    elim (cell-lengths word cell spells) [
      | inl whole ↦ absurd (not-within before last number word same (omega (arith, long, whole)) (cell-visible word cell spells).1)
      | inr header ↦
          let parts = one-cut before last number word same (omega (arith, long, header)) in
          (rw parts.0 is.3, rw parts.1 spells)
    ]

-- If there is none, but one before the last 104 octets, these are the word.
pub common-whole : (line rest before last : List ℕ) (moment : ℕ) (cell : List ℕ) → line ≡ codes "cell " ++ rest
    → ((front word : List ℕ) → rest ≡ front ++ 32 ∷ word → length word ≡ 8 → ⊥) → rest ≡ before ++ 32 ∷ last
    → length last ≡ 104 → IsCommonLine line moment cell → (number_of_digits before ≡ Some moment) × IsCellWord last (OfCell cell)
common-whole line rest before last moment cell here no_header cut long is =
    let number : List ℕ = is.0 in
    let word : List ℕ = is.1 in
    let spells : IsCellWord word (OfCell cell) = is.4 in
    elim (cell-lengths word cell spells) [
      | inl whole ↦
          let parts = one-cut before last number word (sym cut ∙ after line rest moment cell here is) (omega (arith, long, whole)) in
          (rw parts.0 is.3, rw parts.1 spells)
      | inr header ↦ absurd (no_header number word (after line rest moment cell here is) header)
    ]

-- If there is neither, the line has another form.
pub common-neither : (line rest : List ℕ) → line ≡ codes "cell " ++ rest
    → ((front word : List ℕ) → rest ≡ front ++ 32 ∷ word → length word ≡ 8 → ⊥)
    → ((front word : List ℕ) → rest ≡ front ++ 32 ∷ word → length word ≡ 104 → ⊥)
    → (moment : ℕ) (cell : List ℕ) → IsCommonLine line moment cell → ⊥
common-neither line rest here no_header no_whole moment cell is =
    let number : List ℕ = is.0 in
    let word : List ℕ = is.1 in
    elim (cell-lengths word cell is.4) [
      | inl whole ↦ no_whole number word (after line rest moment cell here is) whole
      | inr header ↦ no_header number word (after line rest moment cell here is) header
    ]

-- A fact holds if nothing was found.
pub where-none : {T : Type 0} {P : Type 0} → (found : Option T) → P → IfNone found P
where-none None holds = holds
where-none (Some value) holds = tt

-- Not both: nothing was found, and something was found.
pub not-both : {T : Type 0} (found : Option T) (value : T) → None ≡ found → found ≡ Some value → ⊥
not-both found value none some = absurd (cc)
