use Rattle.cmd_fit.proofs.MomentLemmas.{moments-go-on}
use Rattle.cmd_fit.proofs.laws.moments_go_on.Goals as goal

pub returns : goal.returns
returns c = moments-go-on
