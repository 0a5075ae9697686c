use Rattle.cmd_rules.proofs.OneText.{why_one_text}
use Rattle.cmd_rules.proofs.laws.why_has_one_text.Goals as goal

pub returns : goal.returns
returns c = why_one_text
