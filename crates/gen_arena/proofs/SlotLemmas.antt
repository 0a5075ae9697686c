-- Lemmas on one slot, and on live ids.
use Rattle.std.proofs.Common.{◌≡◌, ◌≢◌, ℕ, ◌<◌, ◌≤◌, ◌&&◌, Bool, true, false, cond, List, length, set, Option, Some, None, IsSome, is_none, nat_lt, refl, sym, ap, ◌∙◌, subst, inl, inr, arith}
use Rattle.std.specs.Prelude.{slice_get, ◌==◌}
use Rattle.std.proofs.lemmas.Bool.{cases_eq}
use Rattle.std.proofs.lemmas.Bool.Decides.{Decides-eqb, nat_tests}
use Rattle.std.proofs.lemmas.Option.{slice_get_within}
use Rattle.gen_arena.specs.Slot.{Slot, IsArena, greatest_generation, full_slot, empty_slot, generation_at, generation_or_zero}
use Rattle.gen_arena.specs.Live.{live_value, value_under, IsLive}
use Rattle.gen_arena.specs.Free.{is_free}
use Rattle.gen_arena.specs.declared.id.Id.{Id}
use Rattle.gen_arena.proofs.ListLemmas.{slice_get-set_same, slice_get-set_other}

pub is_free-empty_slot : (T : Type 0) (generation : ℕ) → generation < greatest_generation → is_free {T = T} (empty_slot generation) ≡ true
is_free-empty_slot T generation below = grind (arith, nat_tests)

pub is_free-worn : (T : Type 0) (generation : ℕ) → greatest_generation ≤ generation → is_free {T = T} (empty_slot generation) ≡ false
is_free-worn T generation above = grind (arith, nat_tests)

module _ {T : Type 0} where
  free_parts : (value : Option T) (generation : ℕ) → (is_none value && nat_lt generation greatest_generation) ≡ true → (value ≡ None) × (generation < greatest_generation)
  free_parts None generation free = (refl, grind (arith, nat_tests))
  free_parts (Some v) generation free = absurd (cc)

  -- A free slot is empty, and has a generation left.
  pub is_free-parts : (slot : Slot T) → is_free slot ≡ true → (slot.value ≡ None) × (slot.generation < greatest_generation)
  is_free-parts slot free = free_parts slot.value slot.generation free

  chosen : (b : Bool) (o : Option T) (v : T) → cond b o None ≡ Some v → (b ≡ true) × (o ≡ Some v)
  chosen true o v found = (refl, found)
  chosen false o v found = absurd (cc)

  slot_is : (slot : Slot T) (generation : ℕ) (v : T) → slot.generation ≡ generation → slot.value ≡ Some v → slot ≡ full_slot generation v
  slot_is slot generation v same has =
      let at : ℕ → Slot T = λ n. record { generation = n; value = slot.value } in
      let with_value : Option T → Slot T = λ o. record { generation = generation; value = o } in
      ap at same ∙ ap with_value has

  found_in_slot : (o : Option (Slot T)) (generation : ℕ) (v : T) → value_under generation o ≡ Some v → o ≡ Some (full_slot generation v)
  found_in_slot None generation v found = absurd (cc)
  found_in_slot (Some slot) generation v found =
      let parts = chosen (slot.generation == generation) slot.value v found in
      ap Some (slot_is slot generation v ((Decides-eqb slot.generation generation).0 parts.0) parts.1)

  -- The slot of a live id has its generation and its value.
  pub slot_of_live : (slots : List (Slot T)) (id : Id) (v : T) → live_value slots id ≡ Some v → slice_get slots id.slot ≡ Some (full_slot id.generation v)
  slot_of_live slots id v found = found_in_slot (slice_get slots id.slot) id.generation v found

  pub value_under-full_slot : (generation : ℕ) (v : T) → value_under generation (Some (full_slot generation v)) ≡ Some v
  value_under-full_slot generation v =
      ap (λ b. cond b (Some v) None) ((Decides-eqb generation generation).1 refl)

  pub live_of_slot : (slots : List (Slot T)) (id : Id) (v : T) → slice_get slots id.slot ≡ Some (full_slot id.generation v) → live_value slots id ≡ Some v
  live_of_slot slots id v holds =
      ap (value_under id.generation) holds ∙ value_under-full_slot id.generation v

  -- A slot has no value under a generation other than its own.
  pub value_under-other : (generation : ℕ) (slot : Slot T) → slot.generation ≢ generation → value_under generation (Some slot) ≡ None
  value_under-other generation slot differs = grind (arith, nat_tests)

  pub value_under-empty_slot : (generation own : ℕ) → value_under {T = T} generation (Some (empty_slot own)) ≡ None
  value_under-empty_slot generation own = either (own == generation)
    where
      either : (b : Bool) → cond b (let none : Option T = None in none) None ≡ None
      either true = refl
      either false = refl

  pub generation_at-there : (slots : List (Slot T)) (k : ℕ) (slot : Slot T) → slice_get slots k ≡ Some slot → generation_at slots k ≡ slot.generation
  generation_at-there slots k slot holds = ap generation_or_zero holds

  -- A write to one slot preserves the invariant of an arena.
  pub IsArena-set : (slots : List (Slot T)) (k : ℕ) (new : Slot T) → k < length slots → IsArena slots → new.generation ≤ greatest_generation → (IsSome new.value → 1 ≤ new.generation) → IsArena (set slots k new)
  IsArena-set slots k new within lawful most least j slot holds =
      elim (cases_eq j k) [
        | inl same ↦
            let twice : Some new ≡ Some slot = sym (ap (slice_get (set slots k new)) same ∙ slice_get-set_same slots k new within) ∙ holds in
            let is : new ≡ slot = cc in
            let P : Slot T → Type 0 = λ s. (s.generation ≤ greatest_generation) × (IsSome s.value → 1 ≤ s.generation) in
            subst P is (most, least)
        | inr differs ↦ lawful j slot (sym (slice_get-set_other slots k j new differs) ∙ holds)
      ]

  some_value : (o : Option T) → IsSome o → (v : T) × (o ≡ Some v)
  some_value None has = absurd (cc)
  some_value (Some v) has = (v, refl)

  pub value_of_live : (slots : List (Slot T)) (id : Id) → IsLive slots id → (v : T) × (live_value slots id ≡ Some v)
  value_of_live slots id live = some_value (live_value slots id) live

  -- The slot of a live id exists and has the id's generation.
  pub live_within : (slots : List (Slot T)) (id : Id) → IsLive slots id → id.slot < length slots
  live_within slots id live =
      let some = value_of_live slots id live in
      slice_get_within slots id.slot _ (slot_of_live slots id some.0 some.1)

  pub live_generation : (slots : List (Slot T)) (id : Id) → IsLive slots id → generation_at slots id.slot ≡ id.generation
  live_generation slots id live =
      let some = value_of_live slots id live in
      generation_at-there slots id.slot _ (slot_of_live slots id some.0 some.1)
