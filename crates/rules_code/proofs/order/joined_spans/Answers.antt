use Rattle.std.proofs.Common.{◌≡◌, length, drop, ap, arith, ◌-◌, ◌+◌, ◌<◌, ◌∙◌}
use Rattle.std.proofs.lemmas.List.{drop_all}
use Rattle.rules_code.specs.inner.Joining.{joined_spans}
use Rattle.rules_code.proofs.InOrder.{joined_none, joined_at}
use Rattle.rules_code.proofs.order.joined_spans.Goals as goal

pub loop-left-init : goal.loop-left-init
loop-left-init c =
    let sorted = c.args.sorted.now in
    (omega arith, c.new-joined.ensures.items ∙ joined_none (drop (length sorted) sorted) (drop_all (length sorted) sorted (omega arith)))

pub loop-left-preserved : goal.loop-left-preserved
loop-left-preserved c =
    let left = c.loop-left.left in
    let sorted = c.args.sorted.now in
    let within : left - 1 < length sorted = omega arith in
    let next : left - 1 + 1 ≡ left = omega arith in
    (omega arith, joined_at sorted (left - 1) left _ c.loop-left.joined.items c.put.new.spans.items within next c.loop-left.invariant.1 c.in_ok-put.ensures)

pub returns : goal.returns
returns c =
    let sorted = c.args.sorted.now in
    let none : c.loop-left.left ≡ 0 = omega arith in
    c.from.ensures.0 ∙ (c.loop-left.invariant.1 ∙ ap (λ n. joined_spans (drop n sorted)) none)
