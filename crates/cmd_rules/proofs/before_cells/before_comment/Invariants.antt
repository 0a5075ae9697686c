use Rattle.std.proofs.Common.{◌-◌, length}
use Rattle.cmd_rules.proofs.WhySteps.{IsLooked}
use Rattle.cmd_rules.proofs.before_cells.before_comment.Given as goal

abbrev pub invariant-loop-at : goal.invariant-loop-at
invariant-loop-at l = IsLooked l.line l.at

abbrev pub decreases-loop-at : goal.decreases-loop-at
decreases-loop-at l = length l.line - l.at
