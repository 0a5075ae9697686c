use Rattle.line_record.proofs.StateLemmas.{histories-have_states}
use Rattle.line_record.proofs.laws.histories_have_states.Goals as goal

pub returns : goal.returns
returns c = histories-have_states
