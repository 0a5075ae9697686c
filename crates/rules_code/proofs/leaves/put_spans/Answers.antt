use Rattle.std.proofs.Common.{◌≡◌, length, refl, subst, drop, arith, ◌-◌, ◌+◌, ◌∷◌, ◌<◌}
use Rattle.std.proofs.lemmas.List.{drop_all}
use Rattle.rules_code.proofs.Made.{made_no_spans, made_span, made_span_at}
use Rattle.rules_code.specs.TestCode.{spans_code}
use Rattle.rules_code.specs.inner.Making.{IsMade}
use Rattle.rules_code.proofs.leaves.put_spans.Goals as goal

pub loop-left-init : goal.loop-left-init
loop-left-init c =
    (omega arith, made_no_spans c.args.mask _ c.args.draft.now c.args.met c.args.unmet (drop_all (length c.args.others.now) c.args.others.now (omega arith)))

pub loop-left-preserved : goal.loop-left-preserved
loop-left-preserved c =
    let left = c.loop-left.left in
    let spans = c.args.others.now in
    let within : left - 1 < length spans = omega arith in
    let next : left - 1 + 1 ≡ left = omega arith in
    (omega arith, made_span_at c.args.mask spans (left - 1) left _ c.args.draft.now c.args.met c.args.unmet c.loop-left.draft c.put_before.new.draft c.loop-left.ways c.in_ok-ways.ways within next c.loop-left.invariant.1 c.in_ok-ways.ensures)

pub returns : goal.returns
returns c =
    let none : c.loop-left.left ≡ 0 = omega arith in
    let all = subst (λ n. IsMade (spans_code c.args.mask (drop n c.args.others.now) c.args.draft.now c.args.met c.args.unmet) c.loop-left.draft c.loop-left.ways) none c.loop-left.invariant.1 in
    made_span c.args.mask (c.args.first ∷ c.args.others.now) c.args.first c.args.others.now c.args.draft.now c.args.met c.args.unmet c.loop-left.draft c.put_before-2.new.draft c.loop-left.ways c.in_ok-ways-2.ways refl all c.in_ok-ways-2.ensures
