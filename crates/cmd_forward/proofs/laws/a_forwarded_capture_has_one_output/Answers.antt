use Rattle.cmd_forward.proofs.one_output.OneOutput.{forwarded_once}
use Rattle.cmd_forward.proofs.laws.a_forwarded_capture_has_one_output.Goals as goal

pub returns : goal.returns
returns c = forwarded_once
