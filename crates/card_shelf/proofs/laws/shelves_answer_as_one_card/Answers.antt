use Rattle.card_shelf.proofs.Lives.{lives-alike}
use Rattle.card_shelf.proofs.laws.shelves_answer_as_one_card.Goals as goal

pub returns : goal.returns
returns c = lives-alike
