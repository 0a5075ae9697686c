-- Lemmas on sequences of changes and on the number of free slots.
use Rattle.std.proofs.Common.{◌≡◌, ◌≢◌, ◌⊎◌, ℕ, zero, suc, ◌<◌, ◌≤◌, false, cond, List, [], ◌∷◌, set, get_or, Option, Some, None, IsSome, is_none, nat_lt, ◌&&◌, refl, sym, ap, ◌∙◌, subst, inl, inr, arith}
use Rattle.std.specs.Prelude.{slice_get}
use Rattle.std.specs.List.{All, AllPairs}
use Rattle.std.proofs.lemmas.Bool.{cases_eq, cases_Bool}
use Rattle.std.proofs.lemmas.Bool.Decides.{nat_tests}
use Rattle.std.proofs.lemmas.Option.{slice_get_within, get_or_from_slice_get}
use Rattle.std.proofs.lemmas.List.Kept.{AllPairs-cons}
use Rattle.std.proofs.lemmas.List.Sums.{sum_by-cons, get_or-le-sum_by}
use Rattle.gen_arena.specs.Slot.{Slot, IsArena, greatest_generation, full_slot, empty_slot, generation_at, generation_or_zero}
use Rattle.gen_arena.specs.Live.{live_value, value_under}
use Rattle.gen_arena.specs.Past.{IsPast, KeepsPast}
use Rattle.gen_arena.specs.Free.{is_free, free_slots, NoneIsFree}
use Rattle.gen_arena.specs.Insert.{Inserts}
use Rattle.gen_arena.specs.Remove.{Removes}
use Rattle.gen_arena.specs.Change.{Change, inserted, removed, nothing, Makes, ChangesLead, given_ids}
use Rattle.gen_arena.specs.declared.id.Id.{Id}
use Rattle.gen_arena.proofs.ListLemmas.{slice_get-set_same, slice_get-set_other}
use Rattle.gen_arena.proofs.SlotLemmas.{is_free-parts, IsArena-set, slot_of_live, generation_at-there}
use Rattle.gen_arena.proofs.PastLemmas.{Inserts-within, Inserts-past, Removes-past, Removes-is_past}

module _ {T : Type 0} where
  Makes-past : (change : Change T) (old new : List (Slot T)) → Makes change old new → KeepsPast old new
  Makes-past (inserted id v) old new made = Inserts-past old new id v made
  Makes-past (removed id v) old new made = Removes-past old new id v made
  Makes-past nothing old new made = λ id past.
      let P : List (Slot T) → Type 0 = λ slots. IsPast slots id in subst P (sym made) past

  -- Past ids stay past after any changes.
  pub Leads-past : (changes : List (Change T)) (first last : List (Slot T)) → ChangesLead changes first last → KeepsPast first last
  Leads-past [] first last leads id past =
      let P : List (Slot T) → Type 0 = λ slots. IsPast slots id in subst P (sym leads) past
  Leads-past (change ∷ later) first last leads id past =
      Leads-past later leads.0 last leads.2 id (Makes-past change first leads.0 leads.1 id past)

  live_value-set_other : (slots : List (Slot T)) (k : ℕ) (new : Slot T) (id : Id) → id.slot ≢ k → live_value (set slots k new) id ≡ live_value slots id
  live_value-set_other slots k new id differs =
      ap (value_under id.generation) (slice_get-set_other slots k id.slot new differs)

  -- A live id keeps its value in an insert, since its slot wasn't free.
  Inserts-keeps : (old new : List (Slot T)) (other : Id) (w : T) → Inserts old new other w → (id : Id) (v : T) → live_value old id ≡ Some v → live_value new id ≡ Some v
  Inserts-keeps old new other w insert id v live =
      elim (cases_eq id.slot other.slot) [
        | inl same ↦
            let holds = slot_of_live old id v live in
            let twice : Some insert.taken ≡ Some (full_slot id.generation v) = sym insert.held ∙ ap (slice_get old) (sym same) ∙ holds in
            let is : insert.taken ≡ full_slot id.generation v = cc in
            let full : is_free insert.taken ≡ false = ap is_free is in
            let free = insert.was_free in
            absurd (cc)
        | inr differs ↦
            ap (λ slots. live_value slots id) insert.after ∙ live_value-set_other old other.slot _ id differs ∙ live
      ]

  -- In a removal, a live id keeps its value, or is past if the removal was of it.
  Removes-keeps : (old new : List (Slot T)) (other : Id) (w : T) → Removes old new other w → (id : Id) (v : T) → 1 ≤ id.generation → live_value old id ≡ Some v → (live_value new id ≡ Some v) ⊎ IsPast new id
  Removes-keeps old new other w remove id v given live =
      elim (cases_eq id.slot other.slot) [
        | inl same ↦
            let holds = slot_of_live old id v live in
            let twice : Some (full_slot id.generation v) ≡ Some (full_slot other.generation w) = sym holds ∙ ap (slice_get old) same ∙ slot_of_live old other w remove.was in
            let is : full_slot id.generation v ≡ full_slot other.generation w = cc in
            let generation : id.generation ≡ other.generation = ap (λ slot. slot.generation) is in
            let past = Removes-is_past old new other w remove (omega (arith, given, generation)) in
            let P : ℕ → ℕ → Type 0 = λ k n. IsPast new (record { slot = k; generation = n }) in
            let Q : ℕ → Type 0 = λ n. P id.slot n in
            let R : ℕ → Type 0 = λ k. P k other.generation in
            inr (subst Q (sym generation) (subst R (sym same) past))
        | inr differs ↦
            inl (ap (λ slots. live_value slots id) remove.after ∙ live_value-set_other old other.slot _ id differs ∙ live)
      ]

  Makes-live : (change : Change T) (old new : List (Slot T)) → Makes change old new → (id : Id) (v : T) → 1 ≤ id.generation → live_value old id ≡ Some v → (live_value new id ≡ Some v) ⊎ IsPast new id
  Makes-live (inserted other w) old new made id v given live = inl (Inserts-keeps old new other w made id v live)
  Makes-live (removed other w) old new made id v given live = Removes-keeps old new other w made id v given live
  Makes-live nothing old new made id v given live = inl (ap (λ slots. live_value slots id) made ∙ live)

  -- After any changes a live id has its value or is past.
  pub Leads-live : (changes : List (Change T)) (first last : List (Slot T)) → ChangesLead changes first last → (id : Id) (v : T) → 1 ≤ id.generation → live_value first id ≡ Some v → (live_value last id ≡ Some v) ⊎ IsPast last id
  Leads-live [] first last leads id v given live = inl (ap (λ slots. live_value slots id) leads ∙ live)
  Leads-live (change ∷ later) first last leads id v given live =
      elim (Makes-live change first leads.0 leads.1 id v given live) [
        | inl still ↦ Leads-live later leads.0 last leads.2 id v given still
        | inr past ↦ inr (Leads-past later leads.0 last leads.2 id past)
      ]

  -- A write that doesn't lower the generation of one slot lowers none.
  generation_at-set : (slots : List (Slot T)) (k : ℕ) (old new : Slot T) (j : ℕ) → slice_get slots k ≡ Some old → old.generation ≤ new.generation → generation_at slots j ≤ generation_at (set slots k new) j
  generation_at-set slots k old new j holds grows =
      elim (cases_eq j k) [
        | inl same ↦
            let within = slice_get_within slots k old holds in
            let before = generation_at-there slots k old holds in
            let after = generation_at-there (set slots k new) k new (slice_get-set_same slots k new within) in
            let left : generation_at slots j ≡ generation_at slots k = ap (generation_at slots) same in
            let right : generation_at (set slots k new) j ≡ generation_at (set slots k new) k = ap (generation_at (set slots k new)) same in
            omega (arith, before, after, left, right)
        | inr differs ↦
            let kept : generation_at (set slots k new) j ≡ generation_at slots j = ap generation_or_zero (slice_get-set_other slots k j new differs) in
            omega (arith, kept)
      ]

  Makes-grows : (change : Change T) (old new : List (Slot T)) → Makes change old new → (k : ℕ) → generation_at old k ≤ generation_at new k
  Makes-grows (inserted id v) old new made k =
      let P : List (Slot T) → Type 0 = λ slots. generation_at old k ≤ generation_at slots k in
      let next = made.next in
      subst P (sym made.after) (generation_at-set old id.slot made.taken (full_slot id.generation v) k made.held (omega arith))
  Makes-grows (removed id v) old new made k =
      let P : List (Slot T) → Type 0 = λ slots. generation_at old k ≤ generation_at slots k in
      subst P (sym made.after) (generation_at-set old id.slot (full_slot id.generation v) (empty_slot id.generation) k (slot_of_live old id v made.was) (omega arith))
  Makes-grows nothing old new made k =
      let same : generation_at new k ≡ generation_at old k = ap (λ slots. generation_at slots k) made in
      omega (arith, same)

  Inserts-fresh : (old new : List (Slot T)) (id : Id) (v : T) → Inserts old new id v → generation_at old id.slot < id.generation
  Inserts-fresh old new id v insert =
      let before = generation_at-there old id.slot insert.taken insert.held in
      let next = insert.next in
      omega (arith, before, next)

  Inserts-generation : (old new : List (Slot T)) (id : Id) (v : T) → Inserts old new id v → generation_at new id.slot ≡ id.generation
  Inserts-generation old new id v insert =
      ap (λ slots. generation_at slots id.slot) insert.after ∙ generation_at-there _ id.slot _ (slice_get-set_same old id.slot (full_slot id.generation v) (Inserts-within old new id v insert))

  -- Changes give only ids whose generations their slots had not used.
  pub Leads-fresh : (changes : List (Change T)) (first last : List (Slot T)) → ChangesLead changes first last → All (λ id. generation_at first id.slot < id.generation) (given_ids changes)
  Leads-fresh [] first last leads k d within = absurd (omega arith)
  Leads-fresh (inserted id v ∷ later) first last leads zero d within = Inserts-fresh first leads.0 id v leads.1
  Leads-fresh (inserted id v ∷ later) first last leads (suc k) d within =
      let given = get_or (given_ids later) k d in
      let above : generation_at leads.0 given.slot < given.generation = Leads-fresh later leads.0 last leads.2 k d (omega arith) in
      let grows = Makes-grows (inserted id v) first leads.0 leads.1 given.slot in
      omega (arith, above, grows)
  Leads-fresh (removed id v ∷ later) first last leads k d within =
      let given = get_or (given_ids later) k d in
      let above : generation_at leads.0 given.slot < given.generation = Leads-fresh later leads.0 last leads.2 k d within in
      let grows = Makes-grows (removed id v) first leads.0 leads.1 given.slot in
      omega (arith, above, grows)
  Leads-fresh (nothing ∷ later) first last leads k d within =
      let given = get_or (given_ids later) k d in
      let above : generation_at leads.0 given.slot < given.generation = Leads-fresh later leads.0 last leads.2 k d within in
      let grows = Makes-grows nothing first leads.0 leads.1 given.slot in
      omega (arith, above, grows)

  -- No id is given twice.
  pub Leads-once : (changes : List (Change T)) (first last : List (Slot T)) → ChangesLead changes first last → AllPairs (λ earlier later. earlier ≢ later) (given_ids changes)
  Leads-once [] first last leads = λ i j d order within. absurd (omega arith)
  Leads-once (inserted id v ∷ later) first last leads =
      AllPairs-cons (λ a b. a ≢ b) id (given_ids later)
      (λ k d within same.
      let above = Leads-fresh later leads.0 last leads.2 k d within in
      let at = Inserts-generation first leads.0 id v leads.1 in
      let P : Id → Type 0 = λ other. generation_at leads.0 other.slot < other.generation in
      let own : generation_at leads.0 id.slot < id.generation = subst P (sym same) above in
      omega (arith, own, at))
      (Leads-once later leads.0 last leads.2)
  Leads-once (removed id v ∷ later) first last leads = Leads-once later leads.0 last leads.2
  Leads-once (nothing ∷ later) first last leads = Leads-once later leads.0 last leads.2

  -- An empty slot that isn't free has reached the greatest generation.
  taken_or_worn : (slot : Slot T) → slot.generation ≤ greatest_generation → is_free slot ≡ false → IsSome slot.value ⊎ (slot.generation ≡ greatest_generation)
  taken_or_worn slot most full = by_value slot.value full
    where
      by_value : (value : Option T) → (is_none value && nat_lt slot.generation greatest_generation) ≡ false → IsSome value ⊎ (slot.generation ≡ greatest_generation)
      by_value None full = inr (let above : greatest_generation ≤ slot.generation = grind (arith, nat_tests) in omega arith)
      by_value (Some v) full = inl refl

  not_free : (slot : Slot T) → IsSome slot.value ⊎ (slot.generation ≡ greatest_generation) → is_free slot ≡ false
  not_free slot either =
      elim (cases_Bool (is_free slot)) [
        | inl free ↦
            let parts = is_free-parts slot free in
            absurd (elim either [
              | inl has ↦ let none = parts.0 in cc
              | inr worn ↦ omega (arith, worn, parts.1)
            ])
        | inr full ↦ full
      ]

  -- If the number of free slots is 0, no slot is free.
  pub none_from_zero : (slots : List (Slot T)) → IsArena slots → free_slots slots ≡ 0 → NoneIsFree slots
  none_from_zero slots lawful counted k slot holds =
      elim (cases_Bool (is_free slot)) [
        | inl free ↦
            let weight : Slot T → ℕ = λ s. cond (is_free s) 1 0 in
            let read : weight (get_or slots k slot) ≡ 1 = ap weight (get_or_from_slice_get slots k slot slot holds) ∙ ap (λ b. cond b 1 0) free in
            let least = get_or-le-sum_by weight slots k slot (slice_get_within slots k slot holds) in
            absurd (omega (arith, read, least, counted))
        | inr full ↦ taken_or_worn slot (lawful k slot holds).0 full
      ]

  pub zero_from_none : (slots : List (Slot T)) → NoneIsFree slots → free_slots slots ≡ 0
  zero_from_none [] none = refl
  zero_from_none (slot ∷ rest) none =
      let weight : Slot T → ℕ = λ s. cond (is_free s) 1 0 in
      let head : weight slot ≡ 0 = ap (λ b. cond b 1 0) (not_free slot (none 0 slot refl)) in
      let later = zero_from_none rest (λ k s holds. none (suc k) s holds) in
      omega (arith, sum_by-cons weight slot rest, head, later)

  Makes-lawful : (change : Change T) (old new : List (Slot T)) → Makes change old new → IsArena old → IsArena new
  Makes-lawful (inserted id v) old new made lawful =
      let within = Inserts-within old new id v made in
      let below = (is_free-parts made.taken made.was_free).1 in
      let next = made.next in
      let P : List (Slot T) → Type 0 = λ slots. IsArena slots in
      subst P (sym made.after) (IsArena-set old id.slot (full_slot id.generation v) within lawful (omega (arith, below, next)) (λ _. omega (arith, next)))
  Makes-lawful (removed id v) old new made lawful =
      let holds = slot_of_live old id v made.was in
      let P : List (Slot T) → Type 0 = λ slots. IsArena slots in
      subst P (sym made.after) (IsArena-set old id.slot (empty_slot id.generation) (slice_get_within old id.slot _ holds) lawful (lawful id.slot _ holds).0 (λ has. absurd (cc)))
  Makes-lawful nothing old new made lawful =
      let P : List (Slot T) → Type 0 = λ slots. IsArena slots in subst P (sym made) lawful

  -- Changes preserve the invariant of an arena.
  pub Leads-lawful : (changes : List (Change T)) (first last : List (Slot T)) → ChangesLead changes first last → IsArena first → IsArena last
  Leads-lawful [] first last leads lawful =
      let P : List (Slot T) → Type 0 = λ slots. IsArena slots in subst P (sym leads) lawful
  Leads-lawful (change ∷ later) first last leads lawful =
      Leads-lawful later leads.0 last leads.2 (Makes-lawful change first leads.0 leads.1 lawful)
