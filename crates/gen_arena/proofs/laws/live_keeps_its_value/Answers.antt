use Rattle.std.proofs.Common.{refl}
use Rattle.gen_arena.proofs.SlotLemmas.{slot_of_live}
use Rattle.gen_arena.proofs.ChangeLemmas.{Leads-live}
use Rattle.gen_arena.proofs.laws.live_keeps_its_value.Goals as goal

pub returns : goal.returns
returns g c changes first last leads lawful id value live =
    Leads-live changes first last leads id value ((lawful id.slot _ (slot_of_live first id value live)).1 refl) live
