use Rattle.leaky.proofs.AgreementLemmas.{levels-stand}
use Rattle.leaky.proofs.laws.levels_stand_for_buckets.Goals as goal

pub returns : goal.returns
returns c = levels-stand
