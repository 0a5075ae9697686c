use Rattle.card_core.proofs.Spares.{some-never}
use Rattle.card_core.proofs.laws.some_answers_never_come.Goals as goal

pub returns : goal.returns
returns c = some-never
