-- The effect of an insert.
use Rattle.std.specs.Prelude.{◌≡◌, ◌+◌, List, Some, IsTrue, slice_get, slice_set}
use Rattle.gen_arena.specs.Slot.{Slot, full_slot}
use Rattle.gen_arena.specs.Free.{is_free}
use Rattle.gen_arena.specs.declared.id.Id.{Id}

-- The id's slot was free. Its generation grows by one and becomes the id's, and it now has the value. All other slots
-- are unchanged.
pub record Inserts {T : Type 0} (old new : List (Slot T)) (id : Id) (value : T) : Type 0 where
  pub taken : Slot T
  pub held : slice_get old id.slot ≡ Some taken
  pub was_free : IsTrue (is_free taken)
  pub next : id.generation ≡ taken.generation + 1
  pub after : new ≡ slice_set old id.slot (full_slot id.generation value)
