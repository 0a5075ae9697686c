use Rattle.card_core.proofs.Promise.{headline}
use Rattle.card_core.proofs.laws.the_headline.Goals as goal

pub returns : goal.returns
returns c = headline
