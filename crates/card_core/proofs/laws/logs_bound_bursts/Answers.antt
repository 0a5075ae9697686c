use Rattle.card_core.proofs.LogBursts.{logs-bound}
use Rattle.card_core.proofs.laws.logs_bound_bursts.Goals as goal

pub returns : goal.returns
returns c = logs-bound
