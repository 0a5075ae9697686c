use Rattle.cmd_fit.proofs.ValueLemmas.{no_value}
use Rattle.cmd_fit.proofs.fit.cell_value.Goals as goal

pub returns-in-None : goal.returns-in-None
returns-in-None c = rw c.in-None.is (no_value c.args.cell.now)
