use Rattle.card_core.proofs.GivenOnce.{given-once}
use Rattle.card_core.proofs.laws.ids_are_given_once.Goals as goal

pub returns : goal.returns
returns c = given-once
