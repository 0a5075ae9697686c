use Rattle.cmd_list.proofs.LongestSteps.{value_within}
use Rattle.cmd_list.proofs.laws.no_cell_takes_more_than_the_longest_run.Goals as goal

pub returns : goal.returns
returns c = value_within
