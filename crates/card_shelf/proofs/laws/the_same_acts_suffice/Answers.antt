use Rattle.card_shelf.proofs.SameActs.{same-acts}
use Rattle.card_shelf.proofs.laws.the_same_acts_suffice.Goals as goal

pub returns : goal.returns
returns c = same-acts
