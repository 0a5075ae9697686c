use Rattle.std.proofs.Common.{◌≤◌, length}
use Rattle.std.specs.List.{All}
use Rattle.rules_diagrams.specs.inner.Following.{IsTold}
use Rattle.rules_diagrams.specs.inner.Values.{Keeps}
use Rattle.rules_diagrams.proofs.program.tell_all.Given as goal

abbrev pub invariant-loop-left : goal.invariant-loop-left
invariant-loop-left l = Keeps l.initial.diagrams l.diagrams × All (IsTold l.diagrams l.code) l.tellings.told.items × (l.left ≤ length l.code)

abbrev pub decreases-loop-left : goal.decreases-loop-left
decreases-loop-left l = l.left
