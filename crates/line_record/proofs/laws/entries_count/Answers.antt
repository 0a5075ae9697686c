use Rattle.line_record.proofs.TotalLemmas.{entries-count}
use Rattle.line_record.proofs.laws.entries_count.Goals as goal

pub returns : goal.returns
returns c = entries-count
