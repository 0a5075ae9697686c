use Rattle.cmd_forward.proofs.Conforming.{forwarded_conforms}
use Rattle.cmd_forward.proofs.laws.what_was_forwarded_conforms.Goals as goal

pub returns : goal.returns
returns c = forwarded_conforms
