-- The rest of the lines, from here on, decides what the whole does.
use Rattle.std.proofs.Common.{◌≡◌, ◌≤◌, ◌-◌, drop, length}
use Rattle.rules_cells.specs.Decisions.{decision_from}
use Rattle.rules_cells.proofs.deciding.decided.Given as goal

abbrev pub invariant-loop-place : goal.invariant-loop-place
invariant-loop-place l = record {
  within : l.place ≤ length l.lines;
  passed : l.passed ≤ l.place;
  rest : decision_from l.side (drop l.place l.lines) l.place l.passed l.otherwise l.cell ≡ decision_from l.side l.lines 0 0 l.otherwise l.cell;
}

abbrev pub decreases-loop-place : goal.decreases-loop-place
decreases-loop-place l = length l.lines - l.place
