use Rattle.line_record.proofs.TotalLemmas.{verdicts-count}
use Rattle.line_record.proofs.laws.verdicts_count.Goals as goal

pub returns : goal.returns
returns c = verdicts-count
