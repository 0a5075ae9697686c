use Rattle.rules_diagrams.proofs.NumberSets.{pairs_pushed}
use Rattle.rules_diagrams.proofs.walk.Walk.meet.Goals as goal

pub returns-clause-pairs : goal.returns-clause-pairs
returns-clause-pairs c =
    pairs_pushed c.args.self.now.pairs c.insert.new.self c.args.self.now.met.items c.push.new.self.items c.args.meeting c.requires c.in_ok-insert.ensures.updates.0 c.in_ok-push.ensures.items
