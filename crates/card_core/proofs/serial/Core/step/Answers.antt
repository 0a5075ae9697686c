use Rattle.card_core.proofs.Spares.{never-stale}
use Rattle.card_core.proofs.serial.Core.step.Goals as goal

pub returns-clause-fresh : goal.returns-clause-fresh
returns-clause-fresh c = never-stale c.args.self.now c.take.new.self c.args.step c.take.result c.take.ensures.follows
