use Rattle.line_record.proofs.TotalLemmas.{totals-join}
use Rattle.line_record.proofs.laws.totals_join.Goals as goal

pub returns : goal.returns
returns c = totals-join
