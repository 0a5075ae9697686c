use Rattle.cmd_fit.proofs.RunLemmas.{classes-are-alone}
use Rattle.cmd_fit.proofs.laws.classes_are_alone.Goals as goal

pub returns : goal.returns
returns c = classes-are-alone
