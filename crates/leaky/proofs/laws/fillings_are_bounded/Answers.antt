use Rattle.leaky.proofs.BurstLemmas.{fillings-bounded}
use Rattle.leaky.proofs.laws.fillings_are_bounded.Goals as goal

pub returns : goal.returns
returns c = fillings-bounded
