-- Words that spell a cell.
use Rattle.std.proofs.Common.{◌≡◌, ◌≢◌, ◌⊎◌, ℕ, ◌==◌, inl, inr, Bool, true, false, if◌then◌else◌, List, ◌++◌, Option, Some, None, length, length-append, replicate, eqb→eq, refl, ap, ◌∙◌, sym, arith}
use Rattle.std.proofs.lemmas.List.Elements.{All-get_or}
use Rattle.hex.specs.Hex.{is_hex_digit}
use Rattle.text_words.specs.CellWord.{IsCellWord}
use Rattle.text_words.specs.Hexadecimal.{cell_of_octets, octets_of_digits}
use Rattle.text_words.specs.inner.DigitNumbers.{AreDigits}
use Rattle.text_words.specs.declared.hexadecimal.CellWord.TheVariants.{OfCell}
use Rattle.text_words.proofs.HexadecimalLemmas.{cell-of_header, cell-of_other, spelled-length, spelled-digits}

-- Octets of a header with a payload of zeros, or of a whole cell.
sized-by : (octets : List ℕ) (is_header : Bool) → (length octets == 4) ≡ is_header
    → length (if is_header then octets ++ replicate 48 0 else octets) ≡ 52 → (length octets ≡ 52) ⊎ (length octets ≡ 4)
sized-by octets true header sized = inr (omega (arith, length-append octets (replicate 48 0)))
sized-by octets false header sized = inl sized

cell-sized : (octets cell : List ℕ) → cell_of_octets octets ≡ cell → length cell ≡ 52 → (length octets ≡ 52) ⊎ (length octets ≡ 4)
cell-sized octets cell same sized = sized-by octets (length octets == 4) refl (ap length same ∙ sized)

whole-sized : (octets : List ℕ) → length octets ≡ 52 → length (cell_of_octets octets) ≡ 52
whole-sized octets sized = let other : length octets ≢ 4 = omega arith in ap length (cell-of_other octets other) ∙ sized

header-sized : (octets : List ℕ) → length octets ≡ 4 → length (cell_of_octets octets) ≡ 52
header-sized octets sized = ap length (cell-of_header octets sized) ∙ omega (arith, length-append octets (replicate 48 0))

-- A word that spells a cell has only digits.
pub cell-digits : (word cell : List ℕ) → IsCellWord word (OfCell cell) → AreDigits word
cell-digits word cell is = λ k below. All-get_or (λ c. is_hex_digit c ≡ true) word k 0 below (spelled-digits word is.0 is.1)

-- It has 104 or eight digits.
pub cell-lengths : (word cell : List ℕ) → IsCellWord word (OfCell cell) → (length word ≡ 104) ⊎ (length word ≡ 8)
cell-lengths word cell is =
    let twice = spelled-length word is.0 is.1 in
    elim (cell-sized is.0 cell is.2 is.3) [
      | inl whole ↦ inl (omega arith)
      | inr header ↦ inr (omega arith)
    ]

-- A word of 104 or eight characters that spells no cell isn't hexadecimal.
spelled-cell : (word octets : List ℕ) → octets_of_digits word ≡ Some octets → (length word ≡ 104) ⊎ (length word ≡ 8) → length (cell_of_octets octets) ≡ 52
spelled-cell word octets e lengths =
    let twice = spelled-length word octets e in
    elim lengths [
      | inl whole ↦ whole-sized octets (omega arith)
      | inr header ↦ header-sized octets (omega arith)
    ]

none-spelled : (word : List ℕ) (found : Option (List ℕ)) → octets_of_digits word ≡ found → (length word ≡ 104) ⊎ (length word ≡ 8)
    → ((cell : List ℕ) → IsCellWord word (OfCell cell) → ⊥) → found ≡ None
none-spelled word (Some octets) e lengths none = absurd (none (cell_of_octets octets) (octets, e, refl, spelled-cell word octets e lengths))
none-spelled word None e lengths none = refl

pub no-cell : (word : List ℕ) → (length word ≡ 104) ⊎ (length word ≡ 8) → ((cell : List ℕ) → IsCellWord word (OfCell cell) → ⊥) → octets_of_digits word ≡ None
no-cell word lengths none = none-spelled word (octets_of_digits word) refl lengths none
