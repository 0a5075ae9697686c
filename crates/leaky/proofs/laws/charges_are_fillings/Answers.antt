use Rattle.leaky.proofs.ChargeLemmas.{charges-fill}
use Rattle.leaky.proofs.laws.charges_are_fillings.Goals as goal

pub returns : goal.returns
returns c = charges-fill
