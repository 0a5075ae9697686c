use Rattle.gen_arena.proofs.ChangeLemmas.{none_from_zero, zero_from_none}
use Rattle.gen_arena.proofs.laws.none_is_free_where_the_count_is_zero.Goals as goal

pub returns : goal.returns
returns g c slots lawful = (none_from_zero slots lawful, zero_from_none slots)
