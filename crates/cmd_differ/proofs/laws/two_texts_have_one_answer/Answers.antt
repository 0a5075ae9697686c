use Rattle.cmd_differ.proofs.OneAnswer.{differ_same}
use Rattle.cmd_differ.proofs.laws.two_texts_have_one_answer.Goals as goal

pub returns : goal.returns
returns c = differ_same
