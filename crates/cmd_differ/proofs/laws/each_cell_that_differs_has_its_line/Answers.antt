use Rattle.cmd_differ.proofs.LineOfCell.{line_of_cell}
use Rattle.cmd_differ.proofs.laws.each_cell_that_differs_has_its_line.Goals as goal

pub returns : goal.returns
returns c = line_of_cell
