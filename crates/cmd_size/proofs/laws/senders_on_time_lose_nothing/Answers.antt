use Rattle.cmd_size.proofs.SenderLemmas.{lose-nothing}
use Rattle.cmd_size.proofs.laws.senders_on_time_lose_nothing.Goals as goal

pub returns : goal.returns
returns c = lose-nothing
