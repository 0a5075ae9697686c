use Rattle.card_isolation.proofs.ServedAlone.{kept-served}
use Rattle.card_isolation.proofs.laws.kept_connections_are_served_alike.Goals as goal

pub returns : goal.returns
returns c = kept-served
