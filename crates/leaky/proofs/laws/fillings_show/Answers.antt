use Rattle.leaky.proofs.ChargeLemmas.{fillings-show}
use Rattle.leaky.proofs.laws.fillings_show.Goals as goal

pub returns : goal.returns
returns c = fillings-show
