use Rattle.std.proofs.Common.{◌∷◌, ◌∙◌, ap}
use Rattle.rules_code.specs.inner.Joining.{joined_spans}
use Rattle.rules_code.proofs.InOrder.{ordered}
use Rattle.rules_code.proofs.order.in_order.Goals as goal

pub returns : goal.returns
returns c =
    ordered (c.args.first ∷ c.args.others.now) c.in_ok-sorted.sorted.items c.in_ok-ordered.ordered.items c.in_ok-sorted.ensures.same c.in_ok-sorted.ensures.order
    (c.in_ok-ordered.ensures ∙ ap joined_spans c.deref.ensures.value)
