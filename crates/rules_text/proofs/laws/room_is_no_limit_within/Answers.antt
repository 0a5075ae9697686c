use Rattle.rules_text.proofs.NamesAdded.{no_limit_within}
use Rattle.rules_text.proofs.laws.room_is_no_limit_within.Goals as goal

pub returns : goal.returns
returns c = no_limit_within
