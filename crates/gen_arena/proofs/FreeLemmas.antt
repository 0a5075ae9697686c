-- Lemmas on the number of free slots.
use Rattle.std.proofs.Common.{◌≡◌, ℕ, ◌+◌, ◌<◌, Bool, cond, List, length, set, get_or, Option, Some, None, refl, ap, arith, length-set}
use Rattle.std.specs.Prelude.{slice_get}
use Rattle.std.proofs.lemmas.Option.{slice_get_within, get_or_from_slice_get}
use Rattle.std.proofs.lemmas.List.Sums.{sum_by-set, count_by-le-length}
use Rattle.gen_arena.specs.Slot.{Slot, IsArena, full_slot, empty_slot}
use Rattle.gen_arena.specs.Free.{is_free, free_slots}
use Rattle.gen_arena.specs.Live.{live_value}
use Rattle.gen_arena.specs.declared.id.Id.{Id}
use Rattle.gen_arena.proofs.SlotLemmas.{slot_of_live}

abbrev pub one_if : Bool → ℕ
one_if b = cond b 1 0

module _ {T : Type 0} where
  -- 1 for a free slot, and 0 for another
  abbrev pub weight : Slot T → ℕ
  weight slot = one_if (is_free slot)

  -- How a write to one slot changes the number of free slots.
  pub free_slots-set : (slots : List (Slot T)) (k : ℕ) (old new : Slot T) → slice_get slots k ≡ Some old → free_slots (set slots k new) + weight old ≡ free_slots slots + weight new
  free_slots-set slots k old new holds =
      let moved = sum_by-set weight slots k new old (slice_get_within slots k old holds) in
      let read : weight (get_or slots k old) ≡ weight old = ap weight (get_or_from_slice_get slots k old old holds) in
      omega (arith, moved, read)

  -- If some slot has a value, not all slots are free.
  pub not_all_free : (slots : List (Slot T)) (k generation : ℕ) (v : T) → slice_get slots k ≡ Some (full_slot generation v) → free_slots slots < length slots
  not_all_free slots k generation v holds =
      let new = empty_slot {T = T} 0 in
      let moved = free_slots-set slots k (full_slot generation v) new holds in
      let most = count_by-le-length is_free (set slots k new) in
      let same = length-set slots k new in
      omega (arith, moved, most, same)

  -- No id of generation 0 is live.
  pub never_used : (slots : List (Slot T)) (id : Id) → IsArena slots → id.generation ≡ 0 → live_value slots id ≡ None
  never_used slots id lawful unused =
      none_unless (live_value slots id) (λ v live.
      let least = (lawful id.slot (full_slot id.generation v) (slot_of_live slots id v live)).1 refl in
      omega (arith, least, unused))
    where
      none_unless : (o : Option T) → ((v : T) → o ≡ Some v → ⊥) → o ≡ None
      none_unless None not = refl
      none_unless (Some v) not = absurd (not v refl)
