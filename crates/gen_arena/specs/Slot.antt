-- A slot of an arena. Contracts see an arena as the list of its slots.
use Rattle.std.specs.Prelude.{◌≡◌, ℕ, ◌≤◌, List, Option, Some, None, IsSome, replicate, slice_get}

-- The greatest generation: 2^32 - 1.
abbrev pub greatest_generation : ℕ
greatest_generation = 4294967295

-- The generation that the slot used last (0 if none), and its value, if it has one.
pub record Slot (T : Type 0) : Type 0 where
  pub generation : ℕ
  pub value : Option T

module _ {T : Type 0} where
  -- An empty slot that used this generation last.
  abbrev pub empty_slot : ℕ → Slot T
  empty_slot generation = record { generation = generation; value = None }

  -- A slot that has this value under this generation.
  abbrev pub full_slot : ℕ → T → Slot T
  full_slot generation value = record { generation = generation; value = Some value }

  -- `count` empty slots, each of which used generation `used` last.
  abbrev pub unused_slots : ℕ → ℕ → List (Slot T)
  unused_slots count used = replicate count (empty_slot used)

  -- The generation that this slot used last, or 0 if there is no slot.
  abbrev pub generation_or_zero : Option (Slot T) → ℕ
  generation_or_zero None = 0
  generation_or_zero (Some slot) = slot.generation

  -- The generation that the slot of this number used last, or 0 if there is no such slot.
  abbrev pub generation_at : List (Slot T) → ℕ → ℕ
  generation_at slots k = generation_or_zero (slice_get slots k)

  -- Invariant of an arena: generations are at most the greatest, and a slot with a value has used one.
  abbrev pub IsArena : List (Slot T) → Type 0
  IsArena slots =
      (k : ℕ) (slot : Slot T) → slice_get slots k ≡ Some slot
      → (slot.generation ≤ greatest_generation) × (IsSome slot.value → 1 ≤ slot.generation)
