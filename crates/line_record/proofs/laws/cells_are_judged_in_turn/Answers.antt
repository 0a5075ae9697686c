use Rattle.line_record.proofs.HistoryLemmas.{judged-append}
use Rattle.line_record.proofs.laws.cells_are_judged_in_turn.Goals as goal

pub returns : goal.returns
returns c = judged-append
