use Rattle.std.proofs.Common.{arith}
use Rattle.rules_cells.proofs.Chains.{plain_all, plain_any, tests_more}
use Rattle.rules_cells.proofs.plain.+plain_of.Goals as goal

pub plain_tests-loop-test-preserved : goal.plain_tests-loop-test-preserved
plain_tests-loop-test-preserved t c =
    tests_more c.args.side c.args.tests.now c.loop-test.test-index c.test-item.result c.loop-test.plain.items c.add_plain.new.plain.items c.in_ok-one.one (omega arith) c.test-item.is c.loop-test.invariant
    c.in_ok-one.ensures c.in_ok-add_plain.ensures

pub plain_of-returns-in-AllOf : goal.plain_of-returns-in-AllOf
plain_of-returns-in-AllOf t c =
    plain_all c.args.side c.args.test.now c.in-AllOf.tests c.deref-in-AllOf.result.now c.all_plain.result c.in-AllOf.is c.deref-in-AllOf.ensures.value c.all_plain.ensures

pub plain_of-returns-in-AnyOf : goal.plain_of-returns-in-AnyOf
plain_of-returns-in-AnyOf t c =
    plain_any c.args.side c.args.test.now c.in-AnyOf.tests c.deref-in-AnyOf.result.now c.any_plain.result c.in-AnyOf.is c.deref-in-AnyOf.ensures.value c.any_plain.ensures
