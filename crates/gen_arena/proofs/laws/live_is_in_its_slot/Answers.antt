use Rattle.gen_arena.proofs.SlotLemmas.{slot_of_live, live_of_slot, live_within, live_generation}
use Rattle.gen_arena.proofs.laws.live_is_in_its_slot.Goals as goal

pub returns-clause-value : goal.returns-clause-value
returns-clause-value g c slots id value = (slot_of_live slots id value, live_of_slot slots id value)

pub returns-clause-within : goal.returns-clause-within
returns-clause-within g c = live_within

pub returns-clause-generation : goal.returns-clause-generation
returns-clause-generation g c = live_generation
