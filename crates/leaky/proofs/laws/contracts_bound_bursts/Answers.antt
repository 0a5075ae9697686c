use Rattle.leaky.proofs.ChargeLemmas.{contracts-bound}
use Rattle.leaky.proofs.laws.contracts_bound_bursts.Goals as goal

pub returns : goal.returns
returns c = contracts-bound
