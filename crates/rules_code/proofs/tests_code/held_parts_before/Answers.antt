use Rattle.std.proofs.Common.{◌≡◌, ℕ, length, Option, List, Some, arith, ◌+◌, ◌∙◌, ◌<◌, ap, sym, subst}
use Rattle.std.proofs.lemmas.List.{length_push}
use Rattle.std.specs.List.{slice_get}
use Rattle.rules_code.specs.inner.Chains.{held_before}
use Rattle.rules_code.specs.declared.packet_part.KnownOnBranches.{KnownOnBranches}
use Rattle.rules_code.specs.declared.packet_part.Part.{Part}
use Rattle.rules_code.proofs.Chains.{held_first, held_next}
use Rattle.rules_code.proofs.Coding.{pushed}
use Rattle.rules_code.proofs.tests_code.held_parts_before.Goals as goal

pub loop-test-init : goal.loop-test-init
loop-test-init c = (omega arith, held_first c.args.on c.args.tests.now c.args.held, λ at lt. absurd (omega arith))

pub loop-test-preserved : goal.loop-test-preserved
loop-test-preserved c =
    let on = c.args.on in
    let tests = c.args.tests.now in
    let first = c.args.held in
    let at = c.loop-test.test-index in
    let old = c.loop-test.parts.items in
    let more = c.in_ok-push.ensures.items in
    let count = ap length more ∙ length_push old c.loop-test.held in
    let all = pushed old c.loop-test.held (λ k. held_before on tests first k) at c.loop-test.invariant.0 c.loop-test.invariant.2 c.loop-test.invariant.1 in (
      omega (arith, count, c.loop-test.invariant.0),
      held_next on tests first at c.test-item.result c.loop-test.held c.known_after_operand-held.result.met (omega arith) c.test-item.is c.loop-test.invariant.1 (ap (λ (l : KnownOnBranches). l.met) c.known_after_operand-held.ensures),
      subst (λ (items : List (Option Part)). (k : ℕ) → k < at + 1 → slice_get items k ≡ Some (held_before on tests first k)) (sym more) all,
    )
