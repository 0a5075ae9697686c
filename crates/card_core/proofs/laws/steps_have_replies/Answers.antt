use Rattle.card_core.proofs.Replies.{steps-replied}
use Rattle.card_core.proofs.laws.steps_have_replies.Goals as goal

pub returns : goal.returns
returns c = steps-replied
