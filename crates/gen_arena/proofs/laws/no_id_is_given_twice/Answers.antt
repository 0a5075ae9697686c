use Rattle.gen_arena.proofs.ChangeLemmas.{Leads-fresh, Leads-once}
use Rattle.gen_arena.proofs.laws.no_id_is_given_twice.Goals as goal

pub returns-clause-fresh : goal.returns-clause-fresh
returns-clause-fresh g c = Leads-fresh

pub returns-clause-once : goal.returns-clause-once
returns-clause-once g c = Leads-once
