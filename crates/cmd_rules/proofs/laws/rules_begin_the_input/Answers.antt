use Rattle.cmd_rules.proofs.OneText.{rules_begin}
use Rattle.cmd_rules.proofs.laws.rules_begin_the_input.Goals as goal

pub returns : goal.returns
returns c = rules_begin
