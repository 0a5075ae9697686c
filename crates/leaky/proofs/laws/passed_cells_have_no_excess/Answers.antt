use Rattle.leaky.proofs.ExcessLemmas.{passed-no-excess}
use Rattle.leaky.proofs.laws.passed_cells_have_no_excess.Goals as goal

pub returns : goal.returns
returns c = passed-no-excess
