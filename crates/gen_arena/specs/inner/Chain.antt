-- The free list, which links the free places.
use Rattle.std.specs.Prelude.{◌≡◌, ℕ, zero, suc, ◌<◌, ◌≤◌, true, List, map, length}
use Rattle.gen_arena.specs.Slot.{Slot, IsArena}
use Rattle.gen_arena.specs.Free.{is_free, free_slots}
use Rattle.gen_arena.specs.inner.PlaceRow.{place_at}
use Rattle.gen_arena.specs.declared.place.Place.{Place}

module _ {T : Type 0} where
  -- The slot of a place, as contracts see it.
  abbrev pub slot_of : Place T → Slot T
  slot_of place = record { generation = place.generation; value = place.value }

  -- Starting at place k, `count` free places are linked, and the last one's link is the number of places. That number
  -- is no place, so no place occurs twice: otherwise two chains of different length would start at it.
  abbrev pub IsFreeChain : List (Place T) → ℕ → ℕ → Type 0
  IsFreeChain places k zero = k ≡ length places
  IsFreeChain places k (suc count) =
      (k < length places) × (is_free (slot_of (place_at places k)) ≡ true) × IsFreeChain places (place_at places k).next count

  -- The slots satisfy the arena's invariant, and the chain from the first place has all free ones.
  pub record IsSoundArena (places : List (Place T)) (first free : ℕ) : Type 0 where
    pub lawful : IsArena (map slot_of places)
    pub chained : IsFreeChain places first free
    pub count : free ≡ free_slots (map slot_of places)
    pub few : length places ≤ 65535
