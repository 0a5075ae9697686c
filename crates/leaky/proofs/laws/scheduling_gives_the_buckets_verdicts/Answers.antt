use Rattle.leaky.proofs.SchedulingLemmas.{scheduled-conformances}
use Rattle.leaky.proofs.laws.scheduling_gives_the_buckets_verdicts.Goals as goal

pub returns : goal.returns
returns c = scheduled-conformances
