use Rattle.rules_text.proofs.GrammarCovers.{rule_is_written}
use Rattle.rules_text.proofs.laws.only_written_rules_are_read.Goals as goal

pub returns : goal.returns
returns c = rule_is_written
