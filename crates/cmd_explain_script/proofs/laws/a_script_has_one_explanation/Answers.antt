use Rattle.cmd_explain_script.proofs.OneExplanation.{explained_once}
use Rattle.cmd_explain_script.proofs.laws.a_script_has_one_explanation.Goals as goal

pub returns : goal.returns
returns c = explained_once
