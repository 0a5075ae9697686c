use Rattle.rules_text.proofs.DecisionsSame.{code_decides}
use Rattle.rules_text.proofs.laws.code_gives_what_is_decided.Goals as goal

pub returns : goal.returns
returns c = code_decides
