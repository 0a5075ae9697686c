use Rattle.cmd_police.proofs.WholeLines.{stays_itself}
use Rattle.cmd_setups.specs.SharedTexts.{octets_of_texts}
use Rattle.cmd_police.proofs.expanding.expand_setup.Goals as goal

pub returns-then-not-has_rules : goal.returns-then-not-has_rules
returns-then-not-has_rules c = stays_itself c.args.script.now (octets_of_texts c.args.texts.now) (c.has_rules.ensures c.if-not-has_rules.true)
