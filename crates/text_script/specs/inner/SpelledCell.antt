-- The line of a cell, by its words.
use Rattle.std.specs.Prelude.{◌≡◌, ℕ, List, [], ◌∷◌, codes, Some}
use Rattle.text_io.specs.Words.{words_of}
use Rattle.text_words.specs.CellWord.{IsCellWord}
use Rattle.text_words.specs.declared.hexadecimal.CellWord.TheVariants.{OfCell}
use Rattle.text_script.specs.ScriptWords.{number_of_digits}

-- The line has three words: `cell`, a number with this value, and a word that spells the cell.
abbrev pub SpellsCell : List ℕ → ℕ → List ℕ → Type 0
SpellsCell line moment cell = (number : List ℕ) × (word : List ℕ)
    × (words_of line ≡ codes "cell" ∷ number ∷ word ∷ []) × (number_of_digits number ≡ Some moment) × IsCellWord word (OfCell cell)
