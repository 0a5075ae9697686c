use Rattle.card_core.proofs.OneAnswer.{one-answer}
use Rattle.card_core.proofs.laws.promises_leave_one_answer.Goals as goal

pub returns : goal.returns
returns c = one-answer
