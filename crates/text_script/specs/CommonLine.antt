-- The line of a cell in the form that programs write.
use Rattle.std.specs.Prelude.{◌≡◌, ℕ, List, ◌∷◌, ◌++◌, codes, Some}
use Rattle.text_words.specs.CellWord.{IsCellWord}
use Rattle.text_words.specs.declared.hexadecimal.CellWord.TheVariants.{OfCell}
use Rattle.text_script.specs.ScriptWords.{number_of_digits}

-- The line has the common form: `cell`, a number with this value, and a word that spells the cell, with one space
-- between them and nothing before or after.
abbrev pub IsCommonLine : List ℕ → ℕ → List ℕ → Type 0
IsCommonLine line moment cell = (number : List ℕ) × (word : List ℕ)
    × (line ≡ codes "cell " ++ (number ++ 32 ∷ word)) × (number_of_digits number ≡ Some moment) × IsCellWord word (OfCell cell)
