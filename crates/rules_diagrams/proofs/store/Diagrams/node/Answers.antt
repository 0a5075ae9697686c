use Rattle.rules_diagrams.proofs.Nodes.{node_read}
use Rattle.rules_diagrams.proofs.store.Diagrams.node.Goals as goal

pub returns : goal.returns
returns c =
    node_read c.args.self.now c.self.inside.nodes.items c.args.number c.index.result.now c.self.view_is c.self.invariant.nodes_are c.requires c.index.ensures
