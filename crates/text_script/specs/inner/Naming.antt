-- The names of a script's programs, as the code stores them: the ids in the order in which they were given, and for
-- each slot where its programs are among them, in the order of their generations from 1.
use Rattle.std.specs.Prelude.{◌≡◌, ℕ, ◌-◌, ◌<◌, List, Some, slice_get}
use Rattle.std.specs.Global.{Vec}
use Rattle.gen_arena.specs.declared.id.Id.{Id}

-- The place is under the id's slot and generation.
pub record IsPlaceOf (places : List (Vec ℕ)) (id : Id) (place : ℕ) : Type 0 where
  pub of_slot : Vec ℕ
  pub there : slice_get places id.slot ≡ Some of_slot
  pub counted : 0 < id.generation
  pub here : slice_get of_slot.items (id.generation - 1) ≡ Some place

-- The place of each id is under its slot and generation.
abbrev pub ArePlaced : List Id → List (Vec ℕ) → Type 0
ArePlaced ids places = (place : ℕ) (id : Id) → slice_get ids place ≡ Some id → IsPlaceOf places id place
