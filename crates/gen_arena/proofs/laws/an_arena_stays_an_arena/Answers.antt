use Rattle.gen_arena.proofs.ChangeLemmas.{Leads-lawful}
use Rattle.gen_arena.proofs.laws.an_arena_stays_an_arena.Goals as goal

pub returns : goal.returns
returns g c = Leads-lawful
