use Rattle.card_shelf.proofs.GoingOn.{ways-short}
use Rattle.card_shelf.proofs.laws.ways_are_short.Goals as goal

pub returns : goal.returns
returns c = ways-short
