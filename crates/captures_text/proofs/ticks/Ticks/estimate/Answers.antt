use Rattle.captures_text.proofs.Inverses.{estimate_small}
use Rattle.captures_text.proofs.ticks.Ticks.estimate.Goals as goal

pub returns : goal.returns
returns c =
    rw (c.from.ensures, c.from-2.ensures)
    (estimate_small c.args.nanoseconds c.args.self.inverse c.args.self.tick.nanoseconds c.args.self.inverse_small)
