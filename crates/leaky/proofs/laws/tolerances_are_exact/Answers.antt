use Rattle.leaky.proofs.ToleranceLemmas.{tolerances-exact}
use Rattle.leaky.proofs.laws.tolerances_are_exact.Goals as goal

pub returns : goal.returns
returns c = tolerances-exact
