use Rattle.rules_text.proofs.OneCode.{one_code}
use Rattle.rules_text.proofs.laws.texts_have_one_code.Goals as goal

pub returns : goal.returns
returns c = one_code
