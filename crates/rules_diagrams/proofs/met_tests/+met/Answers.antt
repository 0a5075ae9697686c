use Rattle.std.proofs.Common.{List, not, ◌∙◌, sym, ap}
use Rattle.rules_cells.specs.Tests.{is_met}
use Rattle.rules_cells.specs.inner.MetTests.{each_is_met, some_is_met}
use Rattle.rules_cells.specs.declared.test.Test.{Test}
use Rattle.rules_cells.proofs.MetTests.{met_all, met_any}
use Rattle.rules_diagrams.proofs.Nodes.{keeps_both}
use Rattle.rules_diagrams.proofs.Telling.{denied_by, tells_by, each_step, some_step}
use Rattle.rules_diagrams.proofs.met_tests.+met.Goals as goal

pub met-returns-in_ok-one-in-Not-clause-tells : goal.met-returns-in_ok-one-in-Not-clause-tells
met-returns-in_ok-one-in-Not-clause-tells t c =
    denied_by c.met.new.diagrams c.denied.new.diagrams c.in_ok-one-in-Not.one c.denied.result (is_met c.args.side c.deref.result.now) (is_met c.args.side c.args.test.now)
    (λ cell. ap (λ (test : Test). not (is_met c.args.side test cell)) c.deref.ensures ∙ sym (ap (λ (test : Test). is_met c.args.side test cell) c.in-Not.is))
    c.in_ok-one-in-Not.ensures.tells c.denied.ensures.tells

pub met-returns-in-AllOf-clause-tells : goal.met-returns-in-AllOf-clause-tells
met-returns-in-AllOf-clause-tells t c =
    tells_by c.all_met.new.diagrams c.all_met.result (each_is_met c.args.side c.deref-in-AllOf.result.now) (is_met c.args.side c.args.test.now)
    (λ cell. ap (λ (ts : List Test). each_is_met c.args.side ts cell) c.deref-in-AllOf.ensures.value
    ∙ (sym (met_all c.args.side cell c.in-AllOf.tests) ∙ sym (ap (λ (test : Test). is_met c.args.side test cell) c.in-AllOf.is)))
    c.all_met.ensures.tells

pub met-returns-in-AnyOf-clause-tells : goal.met-returns-in-AnyOf-clause-tells
met-returns-in-AnyOf-clause-tells t c =
    tells_by c.one_met.new.diagrams c.one_met.result (some_is_met c.args.side c.deref-in-AnyOf.result.now) (is_met c.args.side c.args.test.now)
    (λ cell. ap (λ (ts : List Test). some_is_met c.args.side ts cell) c.deref-in-AnyOf.ensures.value
    ∙ (sym (met_any c.args.side cell c.in-AnyOf.tests) ∙ sym (ap (λ (test : Test). is_met c.args.side test cell) c.in-AnyOf.is)))
    c.one_met.ensures.tells

pub all_met-loop-test-preserved : goal.all_met-loop-test-preserved
all_met-loop-test-preserved t c = (
  keeps_both c.args.diagrams.now c.met.new.diagrams c.both.new.diagrams (keeps_both c.args.diagrams.now c.loop-test.diagrams c.met.new.diagrams c.loop-test.invariant.0 c.met.ensures.keeps) c.both.ensures.keeps,
  each_step c.loop-test.diagrams c.met.new.diagrams c.both.new.diagrams c.loop-test.so_far c.in_ok-one.one c.in_ok-so_far.so_far c.met.ensures.keeps c.args.side c.args.tests.now c.loop-test.test-index c.test-item.result
      c.loop-test-test.true c.test-item.is c.loop-test.invariant.1 c.in_ok-one.ensures.tells c.in_ok-so_far.ensures.tells,
)

pub one_met-loop-test-preserved : goal.one_met-loop-test-preserved
one_met-loop-test-preserved t c = (
  keeps_both c.args.diagrams.now c.met.new.diagrams c.either.new.diagrams (keeps_both c.args.diagrams.now c.loop-test.diagrams c.met.new.diagrams c.loop-test.invariant.0 c.met.ensures.keeps) c.either.ensures.keeps,
  some_step c.loop-test.diagrams c.met.new.diagrams c.either.new.diagrams c.loop-test.so_far c.in_ok-one.one c.in_ok-so_far.so_far c.met.ensures.keeps c.args.side c.args.tests.now c.loop-test.test-index c.test-item.result
      c.loop-test-test.true c.test-item.is c.loop-test.invariant.1 c.in_ok-one.ensures.tells c.in_ok-so_far.ensures.tells,
)
