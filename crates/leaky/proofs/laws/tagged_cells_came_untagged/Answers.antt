use Rattle.leaky.proofs.ChargeLemmas.{tagged-untagged}
use Rattle.leaky.proofs.laws.tagged_cells_came_untagged.Goals as goal

pub returns : goal.returns
returns c = tagged-untagged
