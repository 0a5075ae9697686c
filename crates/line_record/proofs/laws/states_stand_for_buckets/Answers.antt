use Rattle.line_record.proofs.StateLemmas.{states-stand}
use Rattle.line_record.proofs.laws.states_stand_for_buckets.Goals as goal

pub returns : goal.returns
returns c = states-stand
