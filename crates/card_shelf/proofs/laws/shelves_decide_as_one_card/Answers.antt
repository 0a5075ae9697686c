use Rattle.card_shelf.proofs.Beside.{decides-as-one}
use Rattle.card_shelf.proofs.laws.shelves_decide_as_one_card.Goals as goal

pub returns : goal.returns
returns c = decides-as-one
