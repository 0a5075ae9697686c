use Rattle.cmd_police.proofs.EachCapture.{some_police_text}
use Rattle.cmd_police.proofs.laws.each_capture_has_a_text.Goals as goal

pub returns : goal.returns
returns c = some_police_text
