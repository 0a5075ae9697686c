-- Live ids.
use Rattle.std.specs.Prelude.{ℕ, List, Option, Some, None, IsSome, if◌then◌else◌, ◌==◌, slice_get}
use Rattle.gen_arena.specs.Slot.{Slot}
use Rattle.gen_arena.specs.declared.id.Id.{Id}

module _ {T : Type 0} where
  -- The value in this slot, if the slot exists and has this generation.
  abbrev pub value_under : ℕ → Option (Slot T) → Option T
  value_under generation None = None
  value_under generation (Some slot) = if slot.generation == generation then slot.value else None

  -- The value of an id: that of its slot, if the slot exists, has the id's generation and has a value.
  abbrev pub live_value : List (Slot T) → Id → Option T
  live_value slots id = value_under id.generation (slice_get slots id.slot)

  -- The id has a value.
  abbrev pub IsLive : List (Slot T) → Id → Type 0
  IsLive slots id = IsSome (live_value slots id)
