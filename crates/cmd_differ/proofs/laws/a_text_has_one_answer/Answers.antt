use Rattle.cmd_differ.proofs.OneSearch.{unused_same}
use Rattle.cmd_differ.proofs.laws.a_text_has_one_answer.Goals as goal

pub returns : goal.returns
returns c = unused_same
