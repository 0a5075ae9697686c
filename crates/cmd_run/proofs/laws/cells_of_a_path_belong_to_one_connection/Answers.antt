-- By cases on the side.
use Rattle.cmd_run.proofs.PathLemmas.{paths_are_connections}
use Rattle.cmd_run.proofs.laws.cells_of_a_path_belong_to_one_connection.Goals as goal

pub returns : goal.returns
returns c = paths_are_connections
