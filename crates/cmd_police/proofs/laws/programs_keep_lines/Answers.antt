use Rattle.cmd_police.proofs.LinesKept.{keep_lines}
use Rattle.cmd_police.proofs.laws.programs_keep_lines.Goals as goal

pub returns : goal.returns
returns c = keep_lines
