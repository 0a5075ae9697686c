use Rattle.leaky.proofs.ExcessLemmas.{excesses-least}
use Rattle.leaky.proofs.laws.excesses_are_least_delays.Goals as goal

pub returns : goal.returns
returns c = excesses-least
