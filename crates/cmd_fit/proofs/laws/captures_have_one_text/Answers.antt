use Rattle.cmd_fit.proofs.AskedTexts.{one_text}
use Rattle.cmd_fit.proofs.laws.captures_have_one_text.Goals as goal

pub returns : goal.returns
returns c = one_text
