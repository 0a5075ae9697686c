use Rattle.card_core.proofs.GivenOnce.{one-code}
use Rattle.card_core.proofs.laws.ids_name_one_code.Goals as goal

pub returns : goal.returns
returns c = one-code
