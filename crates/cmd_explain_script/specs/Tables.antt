-- Tables that have a value for each of some words.
use Rattle.std.specs.Prelude.{ℕ, if◌then◌else◌, List, [], ◌∷◌, Option, Some, None}
use Rattle.std.specs.Str.{bytes_eq}
use Rattle.cmd_explain_script.specs.Meant.{is_near}

-- The value that a table has for a word.
abbrev pub value_among : {A : Type 0} → List ℕ → List (List ℕ × A) → Option A
value_among word [] = None
value_among word (row ∷ rows) = if bytes_eq word row.0 then Some row.1 else value_among word rows

-- The first word of a table that is near this one.
abbrev pub near_among : {A : Type 0} → List ℕ → List (List ℕ × A) → Option (List ℕ)
near_among word [] = None
near_among word (row ∷ rows) = if is_near word row.0 then Some row.0 else near_among word rows
