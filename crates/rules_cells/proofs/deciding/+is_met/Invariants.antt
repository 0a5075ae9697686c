use Rattle.std.proofs.Common.{◌≡◌, drop}
use Rattle.rules_cells.specs.inner.MetTests.{each_is_met, some_is_met}
use Rattle.rules_cells.proofs.deciding.+is_met.Given as goal

abbrev pub invariant-all_are_met-loop-test : goal.invariant-all_are_met-loop-test
invariant-all_are_met-loop-test l = each_is_met l.side (drop l.test-index l.tests) l.cell ≡ each_is_met l.side l.tests l.cell

abbrev pub invariant-one_is_met-loop-test : goal.invariant-one_is_met-loop-test
invariant-one_is_met-loop-test l = some_is_met l.side (drop l.test-index l.tests) l.cell ≡ some_is_met l.side l.tests l.cell
