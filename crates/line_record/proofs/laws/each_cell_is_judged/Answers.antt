use Rattle.line_record.proofs.HistoryLemmas.{each-judged}
use Rattle.line_record.proofs.laws.each_cell_is_judged.Goals as goal

pub returns : goal.returns
returns c = each-judged
