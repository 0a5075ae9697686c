use Rattle.cmd_explain.proofs.SameFaults.{names_faults}
use Rattle.cmd_explain.proofs.laws.explain_names_the_faults_of_check.Goals as goal

pub returns : goal.returns
returns c = names_faults
