-- Which cells share a line of `fit`: those of a connection and, if rules are given, of one value.
use Rattle.std.specs.Prelude.{ℕ, ◌%◌, ◌^◌, Bool, ◌&&◌, ◌==◌, List, Option, Some, None}
use Rattle.rules_text.specs.DecisionsRead.{rules_decide}
use Rattle.rules_text.specs.RulesRead.{RulesRead}
use Rattle.upc_cell.specs.Connection.{is_same_vc, vc_of}
use Rattle.upc_cell.specs.declared.side.Side.{Side}
use Rattle.cmd_fit.specs.declared.flow.Flow.{Flow}

-- The value that the rules give a cell, or 0 without rules. The value of rules in memory has 32 bits, so the remainder
-- changes nothing; it is there because the definition takes any rules.
unfoldable pub cell_value : Option RulesRead → List ℕ → ℕ
cell_value None cell = 0
cell_value (Some rules) cell = (rules_decide rules cell).value % 2 ^ 32

-- The flow of a cell, where headers are read at this side and these rules are given.
abbrev pub flow_of : Side → Option RulesRead → List ℕ → Flow
flow_of side rules cell = record { vc = vc_of side cell; value = cell_value rules cell }

-- Whether both have the same connection and the same value.
abbrev pub is_same_flow : Flow → Flow → Bool
is_same_flow one other = is_same_vc one.vc other.vc && (one.value == other.value)
