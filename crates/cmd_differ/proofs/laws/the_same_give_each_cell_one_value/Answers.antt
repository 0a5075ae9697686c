use Rattle.cmd_differ.proofs.LineOfCell.{the_same_give_one}
use Rattle.cmd_differ.proofs.laws.the_same_give_each_cell_one_value.Goals as goal

pub returns : goal.returns
returns c = the_same_give_one
