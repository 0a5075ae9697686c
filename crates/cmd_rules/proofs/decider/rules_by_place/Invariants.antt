use Rattle.std.proofs.Common.{◌≤◌, length}
use Rattle.cmd_rules.proofs.Places.{AreTaken}
use Rattle.cmd_rules.proofs.decider.rules_by_place.Given as goal

abbrev pub invariant-loop-line : goal.invariant-loop-line
invariant-loop-line l = record {
  fewer : length l.left.items ≤ length l.initial.left.items;
  taken : AreTaken l.initial.left.items l.left.items l.reversed.items;
}

abbrev pub decreases-loop-line : goal.decreases-loop-line
decreases-loop-line l = length l.left.items
