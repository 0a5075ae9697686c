use Rattle.std.proofs.Common.{List, sym, subst}
use Rattle.rules_diagrams.specs.inner.Store.{IsNode}
use Rattle.rules_diagrams.specs.declared.diagram.Node.{Node}
use Rattle.rules_diagrams.proofs.Nodes.{push_store}
use Rattle.rules_diagrams.proofs.store.Diagrams.push.Goals as goal

pub invariant_of-self-2 : goal.invariant_of-self-2
invariant_of-self-2 c =
    push_store c.self.inside.nodes.items c.push.new.self.items c.self.inside.places.items c.self.inside.steps.items c.args.node c.place_of_node.result c.len-count.result
    c.in_ok-push.ensures.items (subst (λ (nodes : List Node). IsNode nodes c.args.node) (sym c.self.view_is) c.requires) c.self.invariant
