use Rattle.leaky.proofs.BurstLemmas.{bursts-bounded}
use Rattle.leaky.proofs.laws.bursts_are_bounded.Goals as goal

pub returns : goal.returns
returns c = bursts-bounded
