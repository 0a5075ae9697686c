use Rattle.card_isolation.proofs.OwnCellsLemmas.{judged-own}
use Rattle.card_isolation.proofs.laws.judged_cells_are_own.Goals as goal

pub returns : goal.returns
returns c = judged-own
