-- An empty core agrees with the opening world, to which the empty log leads.
use Rattle.std.proofs.Common.{sym, subst}
use Rattle.upc_c.specs.inner.ReachedCore.{IsReachedCore}
use Rattle.upc_c.proofs.CardArrivals.{opening-reached}
use Rattle.upc_c.proofs.card_making.empty_core.Goals as goal

pub returns-in-Ok-new-clause-reached : goal.returns-in-Ok-new-clause-reached
returns-in-Ok-new-clause-reached c =
    subst IsReachedCore (sym c.in-Ok-new.ensures.ok) (opening-reached c.in_ok-shape.shape c.in-Ok.core c.in-Ok.ensures.refused c.in-Ok.ensures.agrees)
