use Rattle.cmd_explain_script.proofs.Naming.{names_faults_of_run}
use Rattle.cmd_explain_script.proofs.laws.explain_names_the_faults_of_run.Goals as goal

pub returns : goal.returns
returns c = names_faults_of_run
