use Rattle.line_record.proofs.RunLemmas.{IsRun-append}
use Rattle.line_record.proofs.laws.runs_join.Goals as goal

pub returns : goal.returns
returns c = IsRun-append
