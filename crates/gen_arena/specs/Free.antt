-- Free slots.
use Rattle.std.specs.Prelude.{◌≡◌, ℕ, ◌⊎◌, Bool, ◌&&◌, List, Some, IsSome, is_none, nat_lt, count_by, slice_get}
use Rattle.gen_arena.specs.Slot.{Slot, greatest_generation}

module _ {T : Type 0} where
  -- The slot is empty, and its generation is below the greatest.
  abbrev pub is_free : Slot T → Bool
  is_free slot = is_none slot.value && nat_lt slot.generation greatest_generation

  -- The number of free slots.
  abbrev pub free_slots : List (Slot T) → ℕ
  free_slots slots = count_by is_free slots

  -- Each slot has a value or has reached the greatest generation.
  abbrev pub NoneIsFree : List (Slot T) → Type 0
  NoneIsFree slots =
      (k : ℕ) (slot : Slot T) → slice_get slots k ≡ Some slot
      → IsSome slot.value ⊎ (slot.generation ≡ greatest_generation)
