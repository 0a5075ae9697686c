use Rattle.std.proofs.Common.{◌≡◌, true, subst}
use Rattle.gen_arena.specs.SameId.{is_same_id}
use Rattle.gen_arena.proofs.IdLemmas.{id_same, id_itself}
use Rattle.gen_arena.proofs.laws.an_id_is_its_slot_and_generation.Goals as goal

pub returns : goal.returns
returns c one other = (id_same one other, λ same. subst (λ id. is_same_id one id ≡ true) same (id_itself one))
