use Rattle.card_core.proofs.ConnectionsOfLog.{connections-of_log}
use Rattle.card_core.proofs.laws.connections_follow_from_the_log.Goals as goal

pub returns : goal.returns
returns c = connections-of_log
