use Rattle.captures_text.proofs.Inverses.{quotient_of_rest}
use Rattle.captures_text.proofs.ticks.Ticks.whole.Goals as goal

pub returns-else-rest-self : goal.returns-else-rest-self
returns-else-rest-self c =
    quotient_of_rest c.args.nanoseconds c.estimate-ticks.result c.args.self.tick.nanoseconds c.args.self.tick.some c.estimate-ticks.ensures
