-- Values of ids after an insert and after a removal.
use Rattle.std.proofs.Common.{◌≡◌, ◌≢◌, List, length, set, Option, Some, None, refl, sym, ap, ◌∙◌, inl, inr}
use Rattle.std.specs.Prelude.{slice_get}
use Rattle.std.proofs.lemmas.Bool.{cases_eq}
use Rattle.std.proofs.lemmas.List.{length-set}
use Rattle.gen_arena.specs.Slot.{Slot, full_slot, empty_slot}
use Rattle.gen_arena.specs.Live.{live_value, value_under}
use Rattle.gen_arena.specs.Insert.{Inserts}
use Rattle.gen_arena.specs.Remove.{Removes}
use Rattle.gen_arena.specs.declared.id.Id.{Id}
use Rattle.gen_arena.proofs.ListLemmas.{slice_get-set_same, slice_get-set_other}
use Rattle.gen_arena.proofs.SlotLemmas.{is_free-parts, slot_of_live, value_under-other, value_under-empty_slot}
use Rattle.gen_arena.proofs.PastLemmas.{Inserts-within, Removes-within}

-- Different ids with the same slot have different generations.
generations_differ : (one other : Id) → other ≢ one → other.slot ≡ one.slot → one.generation ≢ other.generation
generations_differ one other apart same generations =
    apart (λ i. record { slot = same i; generation = sym generations i })

module _ {T : Type 0} where
  -- A slot without a value gives no id a value.
  value_under-none : (slot : Slot T) (id : Id) → slot.value ≡ None → value_under id.generation (Some slot) ≡ None
  value_under-none slot id none =
      let with_value : Option T → Slot T = λ o. record { generation = slot.generation; value = o } in
      ap (λ o. value_under id.generation (Some (with_value o))) none ∙ value_under-empty_slot id.generation slot.generation

  -- Before an insert no id of its slot has a value.
  Inserts-before : (old new : List (Slot T)) (id : Id) (v : T) → Inserts old new id v → (other : Id) → other.slot ≡ id.slot → live_value old other ≡ None
  Inserts-before old new id v insert other same =
      ap (value_under other.generation) (ap (slice_get old) same ∙ insert.held) ∙ value_under-none insert.taken other (is_free-parts insert.taken insert.was_free).0

  pub Inserts-new : (old new : List (Slot T)) (id : Id) (v : T) → Inserts old new id v → live_value old id ≡ None
  Inserts-new old new id v insert = Inserts-before old new id v insert id refl

  pub Inserts-others : (old new : List (Slot T)) (id : Id) (v : T) → Inserts old new id v → (other : Id) → other ≢ id → live_value new other ≡ live_value old other
  Inserts-others old new id v insert other apart =
      let moved = ap (λ slots. live_value slots other) insert.after in
      elim (cases_eq other.slot id.slot) [
        | inl same ↦
            let within = Inserts-within old new id v insert in
            let full = full_slot id.generation v in
            moved ∙ ap (value_under other.generation) (ap (slice_get (set old id.slot full)) same ∙ slice_get-set_same old id.slot full within) ∙ value_under-other other.generation full (generations_differ id other apart same) ∙ sym (Inserts-before old new id v insert other same)
        | inr differs ↦ moved ∙ ap (value_under other.generation) (slice_get-set_other old id.slot other.slot _ differs)
      ]

  pub Inserts-length : (old new : List (Slot T)) (id : Id) (v : T) → Inserts old new id v → length new ≡ length old
  Inserts-length old new id v insert = ap length insert.after ∙ length-set old id.slot _

  pub Removes-gone : (old new : List (Slot T)) (id : Id) (v : T) → Removes old new id v → live_value new id ≡ None
  Removes-gone old new id v remove =
      ap (λ slots. live_value slots id) remove.after ∙ ap (value_under id.generation) (slice_get-set_same old id.slot (empty_slot id.generation) (Removes-within old new id v remove)) ∙ value_under-empty_slot id.generation id.generation

  pub Removes-others : (old new : List (Slot T)) (id : Id) (v : T) → Removes old new id v → (other : Id) → other ≢ id → live_value new other ≡ live_value old other
  Removes-others old new id v remove other apart =
      let moved = ap (λ slots. live_value slots other) remove.after in
      elim (cases_eq other.slot id.slot) [
        | inl same ↦
            let within = Removes-within old new id v remove in
            let empty : Slot T = empty_slot id.generation in
            let held = slot_of_live old id v remove.was in
            let before : live_value old other ≡ None = ap (value_under other.generation) (ap (slice_get old) same ∙ held) ∙ value_under-other other.generation (full_slot id.generation v) (generations_differ id other apart same) in
            moved ∙ ap (value_under other.generation) (ap (slice_get (set old id.slot empty)) same ∙ slice_get-set_same old id.slot empty within) ∙ value_under-empty_slot other.generation id.generation ∙ sym before
        | inr differs ↦ moved ∙ ap (value_under other.generation) (slice_get-set_other old id.slot other.slot _ differs)
      ]

  pub Removes-length : (old new : List (Slot T)) (id : Id) (v : T) → Removes old new id v → length new ≡ length old
  Removes-length old new id v remove = ap length remove.after ∙ length-set old id.slot _
