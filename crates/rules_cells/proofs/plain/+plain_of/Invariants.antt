use Rattle.std.proofs.Common.{take}
use Rattle.rules_cells.specs.inner.PlainTests.{ArePlainTests}
use Rattle.rules_cells.proofs.plain.+plain_of.Given as goal

abbrev pub invariant-plain_tests-loop-test : goal.invariant-plain_tests-loop-test
invariant-plain_tests-loop-test l = ArePlainTests l.side (take l.test-index l.tests) l.plain.items
