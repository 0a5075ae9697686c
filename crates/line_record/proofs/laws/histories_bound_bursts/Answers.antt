use Rattle.line_record.proofs.ChargeLemmas.{histories-bound}
use Rattle.line_record.proofs.laws.histories_bound_bursts.Goals as goal

pub returns : goal.returns
returns c = histories-bound
