use Rattle.card_isolation.proofs.ServedAlone.{served-alone}
use Rattle.card_isolation.proofs.laws.each_is_served_as_alone.Goals as goal

pub returns : goal.returns
returns c = served-alone
