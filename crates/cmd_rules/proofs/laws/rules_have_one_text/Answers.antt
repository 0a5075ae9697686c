use Rattle.cmd_rules.proofs.OneText.{one_text}
use Rattle.cmd_rules.proofs.laws.rules_have_one_text.Goals as goal

pub returns : goal.returns
returns c = one_text
