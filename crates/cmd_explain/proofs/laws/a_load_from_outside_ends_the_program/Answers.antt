use Rattle.cmd_explain.proofs.Outside.{outside_ends_program}
use Rattle.cmd_explain.proofs.laws.a_load_from_outside_ends_the_program.Goals as goal

pub returns : goal.returns
returns c = outside_ends_program
