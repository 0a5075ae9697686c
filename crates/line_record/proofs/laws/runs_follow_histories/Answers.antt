use Rattle.line_record.proofs.RunLemmas.{IsStateAfter-run}
use Rattle.line_record.proofs.laws.runs_follow_histories.Goals as goal

pub returns : goal.returns
returns c = IsStateAfter-run
