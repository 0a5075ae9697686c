-- The value of rules on a cell.
use Rattle.std.specs.Prelude.{ℕ, zero, suc, if◌then◌else◌, List, [], ◌∷◌}
use Rattle.upc_cell.specs.declared.side.Side.{Side}
use Rattle.rules_cells.specs.Tests.{is_met}
use Rattle.rules_cells.specs.declared.rules.RuleLine.{RuleLine}
use Rattle.rules_cells.specs.declared.rules.RuleLine.TheVariants.{Rule, Block, End}
use Rattle.rules_cells.specs.declared.rules.Rules.{Rules}

-- The value of lines on a cell, after this many blocks whose test doesn't hold were entered and not yet left. A rule whose
-- test holds gives its value. Where the test of a block doesn't hold, its lines up to its end are passed over. Where no
-- rule gives a value, it is the one for all other cells.
abbrev pub rules_value_from : Side → List RuleLine → ℕ → ℕ → List ℕ → ℕ
rules_value_from side [] skipped otherwise cell = otherwise
rules_value_from side (Rule test value ∷ rest) zero otherwise cell =
    if is_met side test cell then value else rules_value_from side rest zero otherwise cell
rules_value_from side (Block test ∷ rest) zero otherwise cell =
    if is_met side test cell then rules_value_from side rest zero otherwise cell else rules_value_from side rest 1 otherwise cell
rules_value_from side (End ∷ rest) zero otherwise cell = rules_value_from side rest zero otherwise cell
rules_value_from side (Rule test value ∷ rest) (suc skipped) otherwise cell = rules_value_from side rest (suc skipped) otherwise cell
rules_value_from side (Block test ∷ rest) (suc skipped) otherwise cell = rules_value_from side rest (suc (suc skipped)) otherwise cell
rules_value_from side (End ∷ rest) (suc skipped) otherwise cell = rules_value_from side rest skipped otherwise cell

-- The value of rules on a cell.
abbrev pub value_of_rules : Rules → List ℕ → ℕ
value_of_rules rules cell = rules_value_from rules.side rules.lines.items 0 rules.otherwise cell
