use Rattle.rules_text.proofs.GrammarReads.{rule_is_read}
use Rattle.rules_text.proofs.laws.rules_are_read_as_they_are_written.Goals as goal

pub returns : goal.returns
returns c = rule_is_read
