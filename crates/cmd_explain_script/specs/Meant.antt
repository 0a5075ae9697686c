-- The word that was perhaps meant by another.
use Rattle.std.specs.Prelude.{ℕ, ◌==◌, Bool, true, false, ◌&&◌, ◌||◌, if◌then◌else◌, List, [], ◌∷◌, ◌++◌, codes, length, Option, Some, None}
use Rattle.std.specs.Str.{bytes_eq}
use Rattle.cmd_explain_script.specs.Places.{quoted}

-- Whether the first two octets are exchanged, and the others are the same.
abbrev pub is_swapped : List ℕ → List ℕ → Bool
is_swapped (octet ∷ next ∷ rest) (other ∷ after ∷ more) = (octet == after) && ((next == other) && bytes_eq rest more)
is_swapped _ _ = false

-- Whether two words are equal, or differ by one octet that is added, dropped or changed, or by two neighbours that are exchanged.
abbrev pub is_near : List ℕ → List ℕ → Bool
is_near [] [] = true
is_near [] (octet ∷ rest) = length rest == 0
is_near (octet ∷ rest) [] = length rest == 0
is_near (octet ∷ rest) (other ∷ more) =
    if octet == other then is_near rest more else
    (bytes_eq rest more || (bytes_eq rest (other ∷ more) || (bytes_eq (octet ∷ rest) more || is_swapped (octet ∷ rest) (other ∷ more))))

-- The word that was perhaps meant.
abbrev pub perhaps_text : Option (List ℕ) → List ℕ
perhaps_text None = []
perhaps_text (Some word) = codes "; perhaps " ++ (quoted word ++ codes " is meant")
