use Rattle.std.proofs.Common.{◌≤◌, drop, length}
use Rattle.rules_diagrams.specs.inner.Values.{Keeps}
use Rattle.rules_diagrams.specs.inner.Lined.{AreLined}
use Rattle.rules_diagrams.proofs.lines.deciding_lines.Given as goal

abbrev pub invariant-loop-left : goal.invariant-loop-left
invariant-loop-left l =
    (Keeps l.initial.diagrams l.diagrams) × (AreLined l.diagrams l.rules.side (drop l.left l.lines) l.left l.rules.otherwise l.so_far l.outer.items) × (l.left ≤ length l.lines)

abbrev pub decreases-loop-left : goal.decreases-loop-left
decreases-loop-left l = l.left
