use Rattle.cmd_size.proofs.SenderLemmas.{bursts-lose_nothing}
use Rattle.cmd_size.proofs.laws.bursts_on_time_lose_nothing.Goals as goal

pub returns : goal.returns
returns c = bursts-lose_nothing
