use Rattle.gen_arena.proofs.LiveLemmas.{Removes-gone, Removes-others, Removes-length}
use Rattle.gen_arena.proofs.laws.a_removal_changes_one_id.Goals as goal

pub returns-clause-here : goal.returns-clause-here
returns-clause-here g c old new id value remove = (remove.was, Removes-gone old new id value remove)

pub returns-clause-others : goal.returns-clause-others
returns-clause-others g c = Removes-others

pub returns-clause-slots : goal.returns-clause-slots
returns-clause-slots g c = Removes-length
