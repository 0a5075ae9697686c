-- The law is a lemma.
use Rattle.cmd_police.proofs.SpanSums.{spans_add_up}
use Rattle.cmd_police.proofs.laws.spans_add_up.Goals as goal

pub returns : goal.returns
returns c = spans_add_up
