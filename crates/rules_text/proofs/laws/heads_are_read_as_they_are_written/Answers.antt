use Rattle.rules_text.proofs.GrammarReads.{head_is_read}
use Rattle.rules_text.proofs.laws.heads_are_read_as_they_are_written.Goals as goal

pub returns : goal.returns
returns c = head_is_read
