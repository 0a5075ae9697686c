use Rattle.rules_text.proofs.GrammarCovers.{head_is_written}
use Rattle.rules_text.proofs.laws.only_written_heads_are_read.Goals as goal

pub returns : goal.returns
returns c = head_is_written
