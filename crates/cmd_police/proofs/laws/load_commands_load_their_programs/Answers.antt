use Rattle.cmd_police.proofs.Digits.{commands_load}
use Rattle.cmd_police.proofs.laws.load_commands_load_their_programs.Goals as goal

pub returns : goal.returns
returns c = commands_load
