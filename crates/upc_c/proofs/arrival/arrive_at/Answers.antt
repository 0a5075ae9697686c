use Rattle.upc_c.proofs.CardArrivals.{always-now, answers-reached}
use Rattle.upc_c.proofs.arrival.arrive_at.Goals as goal

pub unreachable-requires : goal.unreachable-requires
unreachable-requires c = always-now _ _ _ _ c.requires c.in-None.ensures.not_now

pub returns-clause-reached : goal.returns-clause-reached
returns-clause-reached c = answers-reached _ _ _ _ _ c.requires c.in-Some.ensures.answered
