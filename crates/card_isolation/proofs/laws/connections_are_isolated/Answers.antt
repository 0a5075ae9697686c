use Rattle.card_isolation.proofs.Isolated.{isolated}
use Rattle.card_isolation.proofs.laws.connections_are_isolated.Goals as goal

pub returns : goal.returns
returns c = isolated
