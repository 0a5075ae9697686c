-- The last word of a cell line, which spells the cell.
use Rattle.std.specs.Prelude.{◌≡◌, ◌≢◌, ℕ, List, length, Some, None}
use Rattle.text_words.specs.Hexadecimal.{octets_of_digits, cell_of_octets}
use Rattle.text_words.specs.declared.hexadecimal.CellWord.{CellWord}
use Rattle.text_words.specs.declared.hexadecimal.CellWord.TheVariants.{OfCell, OfOthers, NoDigits}

-- OfCell: the word spells this cell. OfOthers: it spells this number of octets, which isn't 52. NoDigits: it isn't
-- hexadecimal.
abbrev pub IsCellWord : List ℕ → CellWord → Type 0
IsCellWord word (OfCell cell) = (octets : List ℕ) × (octets_of_digits word ≡ Some octets) × (cell_of_octets octets ≡ cell) × (length cell ≡ 52)
IsCellWord word (OfOthers count) = (octets : List ℕ) × (octets_of_digits word ≡ Some octets) × (length (cell_of_octets octets) ≡ count) × (count ≢ 52)
IsCellWord word NoDigits = octets_of_digits word ≡ None
