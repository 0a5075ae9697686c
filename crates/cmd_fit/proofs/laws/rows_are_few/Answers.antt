use Rattle.cmd_fit.proofs.LinkLemmas.{rows-few}
use Rattle.cmd_fit.proofs.laws.rows_are_few.Goals as goal

pub returns : goal.returns
returns c = rows-few
