use Rattle.std.specs.List.{All}
use Rattle.rules_diagrams.specs.inner.Following.{IsTold}
use Rattle.rules_diagrams.specs.inner.Values.{Keeps}
use Rattle.rules_diagrams.proofs.program.tell_place.Given as goal

abbrev pub invariant-loop-index : goal.invariant-loop-index
invariant-loop-index l = Keeps l.initial.diagrams l.diagrams × All (IsTold l.diagrams l.code) l.tellings.told.items
