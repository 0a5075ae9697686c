use Rattle.upc_c.proofs.CardSteps.{reached-on}
use Rattle.upc_c.proofs.HandingOut.{of-desk, result-fits}
use Rattle.upc_c.proofs.journal.hand_out_short.Goals as goal

pub returns-clause-reached : goal.returns-clause-reached
returns-clause-reached c = reached-on _ _ _ _ (of-desk c.args.when c.args.vc) c.requires.reached c.hand_out.ensures.follows

pub returns-clause-fits : goal.returns-clause-fits
returns-clause-fits c = result-fits _ _ _ _ _ _ c.requires.reached c.hand_out.ensures.follows c.requires.short
