-- Lines with no word, one word, or more.
use Rattle.std.specs.Prelude.{◌≡◌, ℕ, true, false, List, [], ◌∷◌}
use Rattle.text_io.specs.Words.{is_silent}
use Rattle.text_io.specs.declared.words.LineWords.{LineWords}
use Rattle.text_io.specs.declared.words.LineWords.TheVariants.{Silent, One, Several}

-- Silent: the line has no words or is a comment. One: exactly one word. Several: two words or more.
abbrev pub IsLineWords : List (List ℕ) → LineWords → Type 0
IsLineWords words Silent = is_silent words ≡ true
IsLineWords words (One word) = (is_silent words ≡ false) × (words ≡ word.now ∷ [])
IsLineWords words Several = (is_silent words ≡ false) × ((word : List ℕ) × (other : List ℕ) × (more : List (List ℕ)) × (words ≡ word ∷ other ∷ more))
