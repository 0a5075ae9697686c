use Rattle.leaky.proofs.AgreementLemmas.{charges-keep_up}
use Rattle.leaky.proofs.laws.charges_keep_up.Goals as goal

pub returns : goal.returns
returns c = charges-keep_up
