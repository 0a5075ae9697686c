-- The line that decides a cell, as a number.
use Rattle.std.specs.Prelude.{ℕ, ◌+◌, List, Option, Some, None}
use Rattle.rules_cells.specs.Decisions.{decision_of}
use Rattle.rules_cells.specs.declared.rules.Rules.{Rules}

-- The number of a line: 0 for none, else one more than its place.
abbrev pub line_number : Option ℕ → ℕ
line_number None = 0
line_number (Some place) = place + 1

-- The number of the line that decides a cell.
abbrev pub deciding_line : Rules → List ℕ → ℕ
deciding_line rules cell = line_number (decision_of rules cell).line
