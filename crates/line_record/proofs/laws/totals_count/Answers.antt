use Rattle.line_record.proofs.TotalLemmas.{totals-count}
use Rattle.line_record.proofs.laws.totals_count.Goals as goal

pub returns : goal.returns
returns c = totals-count
