-- Places in an input, in words.
use Rattle.std.specs.Prelude.{ℕ, List, ◌++◌, codes, decimal, Option, Some, None}

-- The octets between grave accents.
abbrev pub quoted : List ℕ → List ℕ
quoted octets = codes "`" ++ (octets ++ codes "`")

-- A line number, and a column if there is one.
abbrev pub place_words : ℕ → Option ℕ → List ℕ
place_words number None = codes "line " ++ (decimal number ++ codes ": ")
place_words number (Some column) = codes "line " ++ (decimal number ++ (codes " column " ++ (decimal column ++ codes ": ")))
