-- Lemmas for other crates.
use Rattle.std.proofs.Common.{◌≡◌, ℕ, ◌*◌, ◌<◌, ◌==◌, ◌⊎◌, List, Some, length, get_or, false}
use Rattle.text_io.specs.Words.{is_blank}
use Rattle.text_words.specs.CellWord.{IsCellWord}
use Rattle.text_words.specs.Hexadecimal.{cell_of_octets, octets_of_digits}
use Rattle.text_words.specs.declared.hexadecimal.CellWord.TheVariants.{OfCell}
use Rattle.text_words.proofs.CellWordLemmas as words
use Rattle.text_words.proofs.DigitLemmas as digits
use Rattle.text_words.proofs.HexadecimalLemmas as hexadecimal

-- A word that spells a cell isn't empty and has no blank.
pub cell-visible : (word cell : List ℕ) → IsCellWord word (OfCell cell)
    → (0 < length word) × ((k : ℕ) → k < length word → is_blank (get_or word k 0) ≡ false)
cell-visible = digits.cell-visible

-- It has 104 or eight octets.
pub cell-lengths : (word cell : List ℕ) → IsCellWord word (OfCell cell) → (length word ≡ 104) ⊎ (length word ≡ 8)
cell-lengths = words.cell-lengths

-- No octet of a hexadecimal word is a blank or `#`.
pub digits-visible : (word octets : List ℕ) → octets_of_digits word ≡ Some octets → (k : ℕ) → k < length word
    → (is_blank (get_or word k 0) ≡ false) × ((get_or word k 0 == 35) ≡ false)
digits-visible = digits.digits-visible

-- Two digits an octet.
pub spelled-length : (word octets : List ℕ) → octets_of_digits word ≡ Some octets → length word ≡ 2 * length octets
spelled-length = hexadecimal.spelled-length

-- The octets of a cell aren't empty.
pub filled : (octets cell : List ℕ) → cell_of_octets octets ≡ cell → length cell ≡ 52 → 0 < length octets
filled = digits.filled
