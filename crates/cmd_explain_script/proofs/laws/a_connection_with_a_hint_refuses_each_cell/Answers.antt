use Rattle.cmd_explain_script.proofs.RefusedCells.{refuses_each_cell}
use Rattle.cmd_explain_script.proofs.laws.a_connection_with_a_hint_refuses_each_cell.Goals as goal

pub returns : goal.returns
returns c = refuses_each_cell
