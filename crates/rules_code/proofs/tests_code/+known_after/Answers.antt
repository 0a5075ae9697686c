use Rattle.std.proofs.Common.{true, false, List, ◌∙◌, sym, ap, arith}
use Rattle.rules_code.specs.TestCode.{known_after, known_with_operand, turned_known}
use Rattle.rules_code.specs.inner.Chains.{known_after_tests}
use Rattle.rules_code.specs.declared.packet_part.KnownOnBranches.{KnownOnBranches}
use Rattle.rules_code.specs.declared.plain_test.PlainTest.{PlainTest}
use Rattle.rules_code.proofs.Chains.{known_all, known_any, more_step}
use Rattle.rules_code.proofs.tests_code.+known_after.Goals as goal

pub known_after-returns-in-AllOf : goal.known_after-returns-in-AllOf
known_after-returns-in-AllOf t c =
    c.known_after_tests.ensures ∙ (ap (λ (ts : List PlainTest). known_after_tests true ts c.args.held) c.deref-in-AllOf.ensures.value
    ∙ (sym (known_all c.in-AllOf.tests c.args.held) ∙ sym (ap (λ (test : PlainTest). known_after test c.args.held) c.in-AllOf.is)))

pub known_after-returns-in-AnyOf : goal.known_after-returns-in-AnyOf
known_after-returns-in-AnyOf t c =
    c.turned_known-in-AnyOf.ensures
    ∙ (ap turned_known (c.known_after_tests-in-AnyOf.ensures ∙ ap (λ (ts : List PlainTest). known_after_tests false ts c.args.held) c.deref-in-AnyOf.ensures.value)
    ∙ (sym (known_any c.in-AnyOf.tests c.args.held) ∙ sym (ap (λ (test : PlainTest). known_after test c.args.held) c.in-AnyOf.is)))

pub known_after_tests-loop-test-preserved : goal.known_after_tests-loop-test-preserved
known_after_tests-loop-test-preserved t c =
    more_step c.args.on c.in-Some.others.now c.loop-test.test-index c.test-item.result c.test-item.result c.known_after_operand-known.result c.loop-test.known c.known_with_operand-known.result
    (omega arith) c.test-item.is c.loop-test.invariant (c.known_with_operand-known.ensures ∙ ap (λ (l : KnownOnBranches). known_with_operand c.loop-test.known l) c.known_after_operand.ensures)
