use Rattle.card_shelf.proofs.GoingOn.{goes-on}
use Rattle.card_shelf.proofs.laws.cards_go_on_by_their_arrivals.Goals as goal

pub returns : goal.returns
returns c = goes-on
