use Rattle.card_shelf.proofs.CallsBeside.{calls-keep}
use Rattle.card_shelf.proofs.laws.calls_keep_a_card_beside.Goals as goal

pub returns : goal.returns
returns c = calls-keep
