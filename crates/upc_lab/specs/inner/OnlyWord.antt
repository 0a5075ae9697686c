-- A word that is the only one.
use Rattle.std.specs.Prelude.{ℕ, Bool, false, List, [], ◌∷◌}
use Rattle.std.specs.Str.{bytes_eq}

-- Whether there is exactly one word, and it is this one.
abbrev pub is_only : List ℕ → List (List ℕ) → Bool
is_only shown [] = false
is_only shown (only ∷ []) = bytes_eq only shown
is_only shown (only ∷ other ∷ more) = false
