use Rattle.cmd_options.proofs.LinkLemmas.{links-spelled}
use Rattle.cmd_options.proofs.laws.links_are_spelled.Goals as goal

pub returns : goal.returns
returns c = links-spelled
