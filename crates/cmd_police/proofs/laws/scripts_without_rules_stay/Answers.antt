use Rattle.cmd_police.proofs.WholeLines.{without_rules}
use Rattle.cmd_police.proofs.laws.scripts_without_rules_stay.Goals as goal

pub returns : goal.returns
returns c = without_rules
