use Rattle.std.proofs.Common.{sym, ap, ◌+◌, ◌∙◌}
use Rattle.gen_arena.proofs.SlotLemmas.{generation_at-there}
use Rattle.gen_arena.proofs.PastLemmas.{Inserts-live}
use Rattle.gen_arena.proofs.LiveLemmas.{Inserts-new, Inserts-others, Inserts-length}
use Rattle.gen_arena.proofs.laws.an_insert_changes_one_id.Goals as goal

pub returns-clause-here : goal.returns-clause-here
returns-clause-here g c old new id value insert = (Inserts-new old new id value insert, Inserts-live old new id value insert)

pub returns-clause-others : goal.returns-clause-others
returns-clause-others g c = Inserts-others

pub returns-clause-generation : goal.returns-clause-generation
returns-clause-generation g c old new id value insert =
    insert.next ∙ ap (λ n. n + 1) (sym (generation_at-there old id.slot insert.taken insert.held))

pub returns-clause-slots : goal.returns-clause-slots
returns-clause-slots g c = Inserts-length
