use Rattle.cmd_police.proofs.one_text.OneText.{policed_once}
use Rattle.cmd_police.proofs.laws.a_policed_capture_has_one_text.Goals as goal

pub returns : goal.returns
returns c = policed_once
