-- Lemmas on past ids and changes.
use Rattle.std.proofs.Common.{◌≡◌, ◌≢◌, ℕ, ◌<◌, ◌≤◌, List, length, set, Some, None, sym, ap, ◌∙◌, subst, inl, inr, arith}
use Rattle.std.specs.Prelude.{slice_get}
use Rattle.std.proofs.lemmas.Bool.{cases_eq}
use Rattle.std.proofs.lemmas.Option.{slice_get_within}
use Rattle.gen_arena.specs.Slot.{Slot, full_slot, empty_slot, generation_at, generation_or_zero}
use Rattle.gen_arena.specs.Live.{live_value, value_under}
use Rattle.gen_arena.specs.Past.{IsPast, KeepsPast}
use Rattle.gen_arena.specs.Insert.{Inserts}
use Rattle.gen_arena.specs.Remove.{Removes}
use Rattle.gen_arena.specs.declared.id.Id.{Id}
use Rattle.gen_arena.proofs.ListLemmas.{slice_get-set_same, slice_get-set_other}
use Rattle.gen_arena.proofs.SlotLemmas.{slot_of_live, live_of_slot, value_under-other, value_under-empty_slot, generation_at-there}

module _ {T : Type 0} where
  -- A write to one slot keeps an id past, if it does so when the slot is the id's.
  IsPast-set : (slots : List (Slot T)) (k : ℕ) (slot : Slot T) (id : Id) → k < length slots → (id.slot ≡ k → (value_under id.generation (Some slot) ≡ None) × (id.generation ≤ slot.generation)) → IsPast slots id → IsPast (set slots k slot) id
  IsPast-set slots k slot id within leaves past =
      elim (cases_eq id.slot k) [
        | inl same ↦
            let holds : slice_get (set slots k slot) id.slot ≡ Some slot = ap (slice_get (set slots k slot)) same ∙ slice_get-set_same slots k slot within in
            let parts = leaves same in
            record {
              not_live = ap (value_under id.generation) holds ∙ parts.0;
              given = past.given;
              used = let at = generation_at-there (set slots k slot) id.slot slot holds in omega (arith, at, parts.1);
            }
        | inr differs ↦
            let holds = slice_get-set_other slots k id.slot slot differs in
            record {
              not_live = ap (value_under id.generation) holds ∙ past.not_live;
              given = past.given;
              used = let at : generation_at (set slots k slot) id.slot ≡ generation_at slots id.slot = ap generation_or_zero holds in omega (arith, at, past.used);
            }
      ]

  -- The generation of a past id is at most that of its slot.
  past_below : (slots : List (Slot T)) (k : ℕ) (slot : Slot T) (id : Id) → slice_get slots k ≡ Some slot → IsPast slots id → id.slot ≡ k → id.generation ≤ slot.generation
  past_below slots k slot id holds past same =
      let at = generation_at-there slots k slot holds in
      let moved : generation_at slots id.slot ≡ generation_at slots k = ap (generation_at slots) same in
      omega (arith, at, moved, past.used)

  pub Inserts-within : (old new : List (Slot T)) (id : Id) (v : T) → Inserts old new id v → id.slot < length old
  Inserts-within old new id v insert = slice_get_within old id.slot insert.taken insert.held

  -- An id that an insert gave is live.
  pub Inserts-live : (old new : List (Slot T)) (id : Id) (v : T) → Inserts old new id v → live_value new id ≡ Some v
  Inserts-live old new id v insert =
      let within = Inserts-within old new id v insert in
      live_of_slot new id v (ap (λ slots. slice_get slots id.slot) insert.after ∙ slice_get-set_same old id.slot _ within)

  -- An insert leaves past ids past.
  pub Inserts-past : (old new : List (Slot T)) (id : Id) (v : T) → Inserts old new id v → KeepsPast old new
  Inserts-past old new id v insert other past =
      let within = Inserts-within old new id v insert in
      let P : List (Slot T) → Type 0 = λ slots. IsPast slots other in
      subst P (sym insert.after) (IsPast-set old id.slot (full_slot id.generation v) other within
      (λ same.
      let below = past_below old id.slot insert.taken other insert.held past same in
      let next = insert.next in
      let differs : id.generation ≢ other.generation = omega arith in
      (value_under-other other.generation (full_slot id.generation v) differs, omega arith))
      past)

  pub Removes-within : (old new : List (Slot T)) (id : Id) (v : T) → Removes old new id v → id.slot < length old
  Removes-within old new id v remove = slice_get_within old id.slot _ (slot_of_live old id v remove.was)

  -- A removal leaves past ids past.
  pub Removes-past : (old new : List (Slot T)) (id : Id) (v : T) → Removes old new id v → KeepsPast old new
  Removes-past old new id v remove other past =
      let within = Removes-within old new id v remove in
      let P : List (Slot T) → Type 0 = λ slots. IsPast slots other in
      subst P (sym remove.after) (IsPast-set old id.slot (empty_slot id.generation) other within
      (λ same. (value_under-empty_slot other.generation id.generation, past_below old id.slot _ other (slot_of_live old id v remove.was) past same))
      past)

  -- The id of a removal is past.
  pub Removes-is_past : (old new : List (Slot T)) (id : Id) (v : T) → Removes old new id v → 1 ≤ id.generation → IsPast new id
  Removes-is_past old new id v remove given =
      let within = Removes-within old new id v remove in
      let holds : slice_get new id.slot ≡ Some (empty_slot id.generation) = ap (λ slots. slice_get slots id.slot) remove.after ∙ slice_get-set_same old id.slot _ within in
      record {
        not_live = ap (value_under id.generation) holds ∙ value_under-empty_slot id.generation id.generation;
        given = given;
        used = let at = generation_at-there new id.slot _ holds in omega (arith, at);
      }
