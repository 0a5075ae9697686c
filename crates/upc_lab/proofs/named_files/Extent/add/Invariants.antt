use Rattle.std.proofs.Common.{length}
use Rattle.std.specs.Prelude.{⊤}
use Rattle.upc_lab.proofs.named_files.Extent.add.Given as goal

abbrev pub invariant-loop-left : goal.invariant-loop-left
invariant-loop-left l = ⊤

abbrev pub decreases-loop-left : goal.decreases-loop-left
decreases-loop-left l = length l.left
