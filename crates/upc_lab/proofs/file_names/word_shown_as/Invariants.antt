use Rattle.std.proofs.Common.{◌-◌}
use Rattle.std.specs.Prelude.{⊤}
use Rattle.upc_lab.proofs.file_names.word_shown_as.Given as goal

abbrev pub invariant-loop-number : goal.invariant-loop-number
invariant-loop-number g l = ⊤

abbrev pub decreases-loop-number : goal.decreases-loop-number
decreases-loop-number g l = 18446744073709551615 - l.number
