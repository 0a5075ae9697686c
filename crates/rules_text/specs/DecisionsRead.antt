-- Which line of rules decides a cell, by the rules as they are written (`RulesRead`). `Decisions.antt` of rules_cells defines it by the
-- rules in memory.
use Rattle.std.specs.Prelude.{ℕ, zero, suc, ◌+◌, ◌-◌, if◌then◌else◌, List, [], ◌∷◌, Option, Some, None}
use Rattle.rules_cells.specs.Decisions.{decision_by}
use Rattle.rules_cells.specs.declared.deciding.Decision.{Decision}
use Rattle.upc_cell.specs.declared.side.Side.{Side}
use Rattle.rules_text.specs.RulesRead.{LineRead, rule_line, block_line, end_line, RulesRead}
use Rattle.rules_text.specs.ValuesRead.{test_holds}

-- The value that a line gives a cell, where this many blocks are passed over: a rule gives its value if its test holds and no
-- block is passed over. No other line gives a value.
abbrev pub line_gives : Side → LineRead → ℕ → List ℕ → Option ℕ
line_gives side (rule_line test value) zero cell = if test_holds side test cell then Some value else None
line_gives side (rule_line test value) (suc passed) cell = None
line_gives side (block_line test) passed cell = None
line_gives side end_line passed cell = None

-- How many blocks are passed over after a line, where this many are passed over before it. A block is passed over if its test
-- doesn't hold, and with it each block in it.
abbrev pub line_passes : Side → LineRead → ℕ → List ℕ → ℕ
line_passes side (rule_line test value) passed cell = passed
line_passes side (block_line test) zero cell = if test_holds side test cell then 0 else 1
line_passes side (block_line test) (suc passed) cell = suc (suc passed)
line_passes side end_line passed cell = passed - 1

-- What lines decide, where the first of them has this place among all lines, from 0, and this many blocks are passed over: the first line
-- that gives a value decides. If none does, the value is the one for all other cells.
abbrev pub lines_decide : Side → List LineRead → ℕ → ℕ → ℕ → List ℕ → Decision
lines_decide side [] place passed otherwise cell = record { line = None; value = otherwise }
lines_decide side (line ∷ rest) place passed otherwise cell =
    decision_by (line_gives side line passed cell) place (lines_decide side rest (place + 1) (line_passes side line passed cell) otherwise cell)

-- What rules decide for a cell.
abbrev pub rules_decide : RulesRead → List ℕ → Decision
rules_decide rules cell = lines_decide rules.side rules.lines 0 0 rules.otherwise cell
