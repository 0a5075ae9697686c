use Rattle.gen_arena.proofs.ChangeLemmas.{Leads-past}
use Rattle.gen_arena.proofs.laws.past_is_never_live_again.Goals as goal

pub returns-clause-never_live : goal.returns-clause-never_live
returns-clause-never_live g c changes first last leads id past = (Leads-past changes first last leads id past).not_live

pub returns-clause-past : goal.returns-clause-past
returns-clause-past g c = Leads-past
