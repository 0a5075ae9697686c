use Rattle.std.proofs.Common.{◌∷◌, take}
use Rattle.rules_code.specs.PlainTests.{is_among, kept_bits}
use Rattle.rules_cells.specs.Fields.{number_in}
use Rattle.rules_diagrams.specs.inner.Tells.{Tells}
use Rattle.rules_diagrams.specs.inner.Values.{Keeps}
use Rattle.rules_diagrams.proofs.met_tests.among.Given as goal

abbrev pub invariant-loop-place : goal.invariant-loop-place
invariant-loop-place l =
    (Keeps l.initial.diagrams l.diagrams) × (Tells l.diagrams (λ cell. is_among (l.fn.first ∷ take l.place l.others) (kept_bits l.mask (number_in l.side l.field cell))) l.so_far)
