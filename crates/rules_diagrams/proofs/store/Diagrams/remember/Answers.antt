use Rattle.std.proofs.Common.{List, reverse, sym, subst}
use Rattle.rules_diagrams.specs.inner.Asking.{IsAnswer}
use Rattle.rules_diagrams.specs.declared.diagram.Node.{Node}
use Rattle.rules_diagrams.proofs.Nodes.{remember_store}
use Rattle.rules_diagrams.proofs.store.Diagrams.remember.Goals as goal

pub invariant_of-self : goal.invariant_of-self
invariant_of-self c =
    remember_store (reverse c.self.inside.nodes.items) c.self.inside.places.items c.self.inside.steps.items c.args.asked c.args.answer c.place_of_choice.result
    (subst (λ (nodes : List Node). IsAnswer nodes c.args.asked c.args.answer) (sym c.self.view_is) c.requires) c.self.invariant
