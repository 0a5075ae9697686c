use Rattle.cmd_police.proofs.Existence.{polices_each}
use Rattle.cmd_police.proofs.laws.each_setup_has_a_text.Goals as goal

pub returns : goal.returns
returns c = polices_each
