use Rattle.std.proofs.Common.{take}
use Rattle.rules_cells.specs.inner.MetTests.{each_is_met, some_is_met}
use Rattle.rules_diagrams.specs.inner.Tells.{Tells}
use Rattle.rules_diagrams.specs.inner.Values.{Keeps}
use Rattle.rules_diagrams.proofs.met_tests.+met.Given as goal

abbrev pub invariant-all_met-loop-test : goal.invariant-all_met-loop-test
invariant-all_met-loop-test l = (Keeps l.initial.diagrams l.diagrams) × (Tells l.diagrams (each_is_met l.side (take l.test-index l.tests)) l.so_far)

abbrev pub invariant-one_met-loop-test : goal.invariant-one_met-loop-test
invariant-one_met-loop-test l = (Keeps l.initial.diagrams l.diagrams) × (Tells l.diagrams (some_is_met l.side (take l.test-index l.tests)) l.so_far)
