use Rattle.leaky.proofs.AgreementLemmas.{levels-follow}
use Rattle.leaky.proofs.laws.levels_follow_buckets.Goals as goal

pub returns : goal.returns
returns c = levels-follow
