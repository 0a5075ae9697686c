-- Which line of rules decides a cell.
use Rattle.std.specs.Prelude.{◌≡◌, ◌<◌, ℕ, zero, suc, ◌+◌, ◌-◌, true, false, if◌then◌else◌, List, [], ◌∷◌, Option, Some, None, IfSome, slice_get}
use Rattle.upc_cell.specs.declared.side.Side.{Side}
use Rattle.rules_cells.specs.Tests.{is_met}
use Rattle.rules_cells.specs.Rules.{value_of_rules}
use Rattle.rules_cells.specs.declared.deciding.Decision.{Decision}
use Rattle.rules_cells.specs.declared.rules.RuleLine.{RuleLine}
use Rattle.rules_cells.specs.declared.rules.RuleLine.TheVariants.{Rule, Block, End}
use Rattle.rules_cells.specs.declared.rules.Rules.{Rules}
use Rattle.rules_cells.specs.declared.test.Test.{Test}

-- The value that a line gives a cell, where this many blocks are passed over: a rule gives its value if its test holds and no
-- block is passed over. No other line gives a value.
abbrev pub value_given : Side → RuleLine → ℕ → List ℕ → Option ℕ
value_given side (Rule test value) zero cell = if is_met side test cell then Some value else None
value_given side (Rule test value) (suc passed) cell = None
value_given side (Block test) passed cell = None
value_given side End passed cell = None

-- How many blocks are passed over after a line, where this many are passed over before it. A block is passed over if its test
-- doesn't hold, and with it each block in it.
abbrev pub passed_after : Side → RuleLine → ℕ → List ℕ → ℕ
passed_after side (Rule test value) passed cell = passed
passed_after side (Block test) zero cell = if is_met side test cell then 0 else 1
passed_after side (Block test) (suc passed) cell = suc (suc passed)
passed_after side End passed cell = passed - 1

-- What lines decide, where the first of them has this place and gives this value, if it gives one. If it gives none, the lines after it
-- decide.
abbrev pub decision_by : Option ℕ → ℕ → Decision → Decision
decision_by None place later = later
decision_by (Some value) place later = record { line = Some place; value = value }

-- What lines decide, where the first of them has this place and this many blocks are passed over: the first line that gives a
-- value decides. If none does, the value is the one for all other cells.
abbrev pub decision_from : Side → List RuleLine → ℕ → ℕ → ℕ → List ℕ → Decision
decision_from side [] place passed otherwise cell = record { line = None; value = otherwise }
decision_from side (line ∷ rest) place passed otherwise cell =
    decision_by (value_given side line passed cell) place (decision_from side rest (place + 1) (passed_after side line passed cell) otherwise cell)

-- What rules decide for a cell.
abbrev pub decision_of : Rules → List ℕ → Decision
decision_of rules cell = decision_from rules.side rules.lines.items 0 0 rules.otherwise cell

-- How many blocks are passed over before the line at this place, counted from 0, if this many are before the first.
abbrev pub passed_at : Side → List RuleLine → ℕ → List ℕ → ℕ → ℕ
passed_at side lines passed cell zero = passed
passed_at side [] passed cell (suc place) = passed
passed_at side (line ∷ rest) passed cell (suc place) = passed_at side rest (passed_after side line passed cell) cell place

-- The rule at this place has this test and value, and no block that it is in is passed over.
abbrev pub IsTried : Side → List RuleLine → ℕ → List ℕ → ℕ → Test → ℕ → Type 0
IsTried side lines passed cell place test value =
    (slice_get lines place ≡ Some (Rule test value)) × (passed_at side lines passed cell place ≡ 0)

-- The place is before the one that decided, if one did.
abbrev pub IsEarlier : ℕ → Option ℕ → Type 0
IsEarlier place None = Unit {0}
IsEarlier place (Some decided) = place < decided

-- The decision has the value of the rules. The line is that of a rule whose test holds, and which isn't passed over: the first
-- such rule. If there is none, the value is the one for all other cells.
pub record IsFirstDecision (rules : Rules) (cell : List ℕ) (decision : Decision) : Type 0 where
  pub value : decision.value ≡ value_of_rules rules cell
  pub decides : IfSome decision.line (λ place. (test : Test) × IsTried rules.side rules.lines.items 0 cell place test decision.value
      × (is_met rules.side test cell ≡ true))
  pub first : (place value : ℕ) (test : Test) → IsTried rules.side rules.lines.items 0 cell place test value
      → IsEarlier place decision.line → is_met rules.side test cell ≡ false
  pub others : decision.line ≡ None → decision.value ≡ rules.otherwise

-- For all rules and cells, the first rule whose test holds decides.
abbrev pub TheFirstRuleDecides : Type 0
TheFirstRuleDecides = (rules : Rules) (cell : List ℕ) → IsFirstDecision rules cell (decision_of rules cell)
