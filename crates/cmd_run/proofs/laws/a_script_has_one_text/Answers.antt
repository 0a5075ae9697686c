-- Cards that are seen alike answer alike.
use Rattle.cmd_run.proofs.one_script.OneScript.{one-run_text}
use Rattle.cmd_run.proofs.laws.a_script_has_one_text.Goals as goal

pub returns : goal.returns
returns c = one-run_text
