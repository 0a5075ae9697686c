-- The effect of a removal.
use Rattle.std.specs.Prelude.{◌≡◌, List, Some, slice_set}
use Rattle.gen_arena.specs.Slot.{Slot, empty_slot}
use Rattle.gen_arena.specs.Live.{live_value}
use Rattle.gen_arena.specs.declared.id.Id.{Id}

-- The id had the value. Its slot is now empty and keeps its generation; all other slots are unchanged.
pub record Removes {T : Type 0} (old new : List (Slot T)) (id : Id) (value : T) : Type 0 where
  pub was : live_value old id ≡ Some value
  pub after : new ≡ slice_set old id.slot (empty_slot id.generation)
