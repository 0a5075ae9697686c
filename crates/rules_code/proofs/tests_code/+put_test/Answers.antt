use Rattle.std.proofs.Common.{◌≡◌, length, drop, arith, subst, ◌-◌, ◌+◌, ◌<◌, ◌∙◌}
use Rattle.std.proofs.lemmas.List.{drop_all}
use Rattle.std.specs.Result.{IfOk}
use Rattle.rules_code.specs.Labels.{Tested}
use Rattle.rules_code.specs.inner.Chains.{held_before}
use Rattle.rules_code.specs.inner.Making.{IsMade}
use Rattle.rules_code.proofs.Chains.{code_is_all, code_is_any, made_none, made_part, made_turned, made_whole}
use Rattle.rules_code.proofs.Coding.{read_at}
use Rattle.rules_code.proofs.tests_code.+put_test.Goals as goal

pub put_test-returns-in-AllOf : goal.put_test-returns-in-AllOf
put_test-returns-in-AllOf t c =
    subst (λ (made : Tested). IfOk c.put_chain.result (IsMade made c.put_chain.new.draft))
    (code_is_all c.args.test.now c.in-AllOf.tests c.deref-in-AllOf.result.now c.args.held c.args.draft.now c.args.met c.args.unmet c.in-AllOf.is c.deref-in-AllOf.ensures.value) c.put_chain.ensures

pub put_test-returns-in_ok-ways-in-AnyOf : goal.put_test-returns-in_ok-ways-in-AnyOf
put_test-returns-in_ok-ways-in-AnyOf t c =
    let turned_is = c.turned_ways-in-AnyOf.ensures in
    subst (λ (made : Tested). IsMade made c.put_chain-in-AnyOf.new.draft c.turned_ways-in-AnyOf.result)
    (code_is_any c.args.test.now c.in-AnyOf.tests c.deref-in-AnyOf.result.now c.args.held c.args.draft.now c.args.met c.args.unmet c.in-AnyOf.is c.deref-in-AnyOf.ensures.value)
    (made_turned _ c.put_chain-in-AnyOf.new.draft c.in_ok-ways-in-AnyOf.ways c.turned_ways-in-AnyOf.result turned_is.entry turned_is.met turned_is.unmet c.in_ok-ways-in-AnyOf.ensures)

pub put_chain-loop-left-init : goal.put_chain-loop-left-init
put_chain-loop-left-init t c =
    let tests = c.args.tests.now in
    (omega arith, made_none c.args.on (drop (length tests) tests) (held_before c.args.on tests c.args.held (length tests)) c.args.draft.now c.args.next c.args.end (drop_all (length tests) tests (omega arith)))

pub put_chain-loop-left-preserved : goal.put_chain-loop-left-preserved
put_chain-loop-left-preserved t c =
    let on = c.args.on in
    let tests = c.args.tests.now in
    let first = c.args.held in
    let left = c.loop-left.left in
    let at = left - 1 in
    let lt : at < length tests = omega arith in
    let next : at + 1 ≡ left = omega arith in (
      omega arith,
      made_part on tests first at left c.index-tests-left.result c.index.result.now c.args.draft.now c.args.next c.args.end c.loop-left.draft c.put_operand.new.draft c.loop-left.ways c.in_ok-ways.ways lt next
          c.index-tests-left.is (c.index.ensures ∙ read_at c.in_ok-parts.parts.items at c.index.result.now (held_before on tests first at) (c.in_ok-parts.ensures.held at lt)) c.loop-left.invariant.1 c.in_ok-ways.ensures,
    )

pub put_chain-returns : goal.put_chain-returns
put_chain-returns t c =
    made_whole c.args.on c.args.tests.now c.args.held c.loop-left.left c.args.draft.now c.args.next c.args.end c.loop-left.draft c.loop-left.ways (omega arith) c.loop-left.invariant.1
