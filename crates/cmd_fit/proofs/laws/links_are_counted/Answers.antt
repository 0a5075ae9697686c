use Rattle.cmd_fit.proofs.LinkLemmas.{links-counted}
use Rattle.cmd_fit.proofs.laws.links_are_counted.Goals as goal

pub returns : goal.returns
returns c = links-counted
