-- A line of one word.
use Rattle.std.specs.Prelude.{ℕ, List, [], ◌∷◌, Option, Some, None}

-- The word of a line with exactly one word.
abbrev pub only_of : List (List ℕ) → Option (List ℕ)
only_of (word ∷ []) = Some word
only_of _ = None
