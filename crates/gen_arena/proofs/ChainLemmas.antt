-- Lemmas on the free list and on the invariant of an arena.
use Rattle.std.proofs.Common.{◌≡◌, ◌≢◌, ℕ, zero, suc, ◌+◌, ◌-◌, ◌*◌, ◌<◌, ◌≤◌, Bool, true, false, List, map, length, set, Option, Some, None, IsSome, IfSome, refl, sym, ap, ◌∙◌, subst, inl, inr, arith, length-set}
use Rattle.std.specs.Prelude.{slice_get}
use Rattle.std.proofs.lemmas.Bool.{cases_eq}
use Rattle.std.proofs.lemmas.Option.{slice_get_within, get_or_from_slice_get}
use Rattle.std.proofs.lemmas.List.{map-set, length-map, length-replicate, get_or-replicate}
use Rattle.std.proofs.lemmas.List.Folds.{sum_by-replicate}
use Rattle.gen_arena.specs.Slot.{Slot, IsArena, greatest_generation, full_slot, empty_slot, unused_slots}
use Rattle.gen_arena.specs.Free.{is_free, free_slots}
use Rattle.gen_arena.specs.Live.{live_value, IsLive}
use Rattle.gen_arena.specs.Insert.{Inserts}
use Rattle.gen_arena.specs.Remove.{Removes}
use Rattle.gen_arena.specs.declared.id.Id.{Id}
use Rattle.gen_arena.specs.inner.PlaceRow.{no_place, place_at, AreFresh}
use Rattle.gen_arena.specs.inner.Chain.{slot_of, IsFreeChain, IsSoundArena}
use Rattle.gen_arena.specs.declared.place.Place.{Place}
use Rattle.gen_arena.proofs.SlotLemmas.{slot_of_live, value_of_live, is_free-parts, IsArena-set, is_free-empty_slot, is_free-worn}
use Rattle.gen_arena.proofs.FreeLemmas.{one_if, weight, free_slots-set, not_all_free}
use Rattle.gen_arena.proofs.PlaceLemmas.{get_or-set_same, get_or-set_other, slot_at, AreFresh-slots}

module _ {T : Type 0} where
  abbrev free_at : List (Place T) → ℕ → Bool
  free_at places k = is_free (slot_of (place_at places k))

  -- Only one chain leads from a place to the end.
  chain_once : (places : List (Place T)) (k m n : ℕ) → IsFreeChain places k m → IsFreeChain places k n → m ≡ n
  chain_once places k zero zero one other = refl
  chain_once places k zero (suc n) one other = absurd (omega (arith, one, other.0))
  chain_once places k (suc m) zero one other = absurd (omega (arith, one.0, other))
  chain_once places k (suc m) (suc n) one other = ap suc (chain_once places (place_at places k).next m n one.2 other.2)

  -- A chain survives a write to a place that isn't in it.
  chain_passes : (places : List (Place T)) (j k m : ℕ) (new : Place T) → j ≢ k → IsFreeChain places j (suc m) → IsFreeChain (set places k new) (place_at places j).next m → IsFreeChain (set places k new) j (suc m)
  chain_passes places j k m new differs chain later =
      let same = get_or-set_other places k j new no_place differs in
      let long = length-set places k new in
      let P : Place T → Type 0 = λ place. IsFreeChain (set places k new) place.next m in (
        omega (arith, chain.0, long),
        ap (λ place. is_free (slot_of place)) same ∙ chain.1,
        subst P (sym same) later,
      )

  -- A chain doesn't return to an earlier place.
  chain-set_before : (places : List (Place T)) (j k m n : ℕ) (new : Place T) → m < n → IsFreeChain places k n → IsFreeChain places j m → IsFreeChain (set places k new) j m
  chain-set_before places j k zero n new less before chain = chain ∙ sym (length-set places k new)
  chain-set_before places j k (suc m) n new less before chain =
      elim (cases_eq j k) [
        | inl same ↦
            let P : ℕ → Type 0 = λ i. IsFreeChain places i (suc m) in
            absurd (omega (arith, less, chain_once places k (suc m) n (subst P same chain) before))
        | inr differs ↦
            chain_passes places j k m new differs chain (chain-set_before places (place_at places j).next k m n new (omega (arith, less)) before chain.2)
      ]

  -- Nor does it have a place that isn't free.
  chain-set_taken : (places : List (Place T)) (j k m : ℕ) (new : Place T) → free_at places k ≡ false → IsFreeChain places j m → IsFreeChain (set places k new) j m
  chain-set_taken places j k zero new taken chain = chain ∙ sym (length-set places k new)
  chain-set_taken places j k (suc m) new taken chain =
      elim (cases_eq j k) [
        | inl same ↦ absurd (let free : free_at places k ≡ true = ap (free_at places) (sym same) ∙ chain.1 in cc)
        | inr differs ↦
            chain_passes places j k m new differs chain (chain-set_taken places (place_at places j).next k m new taken chain.2)
      ]

  -- The head of a chain, and the rest of it.
  pub record StartsAt (places : List (Place T)) (first count : ℕ) : Type 0 where
    pub there : first < length places
    pub free : free_at places first ≡ true
    pub later : IsFreeChain places (place_at places first).next (count - 1)

  pub starts_at : (places : List (Place T)) (first count : ℕ) → 0 < count → IsFreeChain places first count → StartsAt places first count
  starts_at places first zero some chain = absurd (omega arith)
  starts_at places first (suc count) some chain =
      let less : suc count - 1 ≡ count = omega arith in
      let P : ℕ → Type 0 = λ n. IsFreeChain places (place_at places first).next n in
      record { there = chain.0; free = chain.1; later = subst P (sym less) chain.2 }

  -- A value goes into the first free place.
  pub IsSound-filled : (places : List (Place T)) (first count : ℕ) (new : Place T) (v : T) → 0 < count → IsSoundArena places first count → slot_of new ≡ full_slot ((place_at places first).generation + 1) v → IsSoundArena (set places first new) (place_at places first).next (count - 1)
  IsSound-filled places first count new v some sound filled =
      let start = starts_at places first count some sound.chained in
      let slots = map slot_of places in
      let old = slot_of (place_at places first) in
      let full = full_slot ((place_at places first).generation + 1) v in
      let holds = slot_at places first start.there in
      let within = slice_get_within slots first old holds in
      let after : map slot_of (set places first new) ≡ set slots first full = rw (map-set, filled) in
      record {
        lawful =
            let below = (is_free-parts old start.free).1 in
            subst IsArena (sym after) (IsArena-set slots first full within sound.lawful (omega (arith, below)) (λ _. omega arith));
        chained = chain-set_before places (place_at places first).next first (count - 1) count new (omega (arith, some)) sound.chained start.later;
        count =
            let moved = free_slots-set slots first old full holds in
            let one : weight old ≡ 1 = ap one_if start.free in
            let before = sound.count in
            let now : free_slots (map slot_of (set places first new)) ≡ free_slots (set slots first full) = ap free_slots after in
            omega (arith, moved, one, before, now);
        few = let same = length-set places first new in omega (arith, same, sound.few);
      }

  -- The properties of a place that is emptied.
  pub record WasFull (places : List (Place T)) (k generation : ℕ) (v : T) : Type 0 where
    pub there : k < length places
    pub full : slot_of (place_at places k) ≡ full_slot generation v

  taken_there : (places : List (Place T)) (k generation : ℕ) (v : T) → WasFull places k generation v → free_at places k ≡ false
  taken_there places k generation v was = ap is_free was.full

  pub held_there : (places : List (Place T)) (k generation : ℕ) (v : T) → WasFull places k generation v → slice_get (map slot_of places) k ≡ Some (full_slot generation v)
  held_there places k generation v was = slot_at places k was.there ∙ ap Some was.full

  pub room_for_one : (places : List (Place T)) (first count k generation : ℕ) (v : T) → IsSoundArena places first count → WasFull places k generation v → count < 65535
  room_for_one places first count k generation v sound was =
      let fewer = not_all_free (map slot_of places) k generation v (held_there places k generation v was) in
      omega (arith, fewer, length-map places (slot_of {T = T}), sound.few, sound.count)

  emptied_lawful : (places : List (Place T)) (k generation : ℕ) (v : T) (new : Place T) → IsArena (map slot_of places) → WasFull places k generation v → slot_of new ≡ empty_slot generation → IsArena (map slot_of (set places k new))
  emptied_lawful places k generation v new lawful was emptied =
      let slots = map slot_of places in
      let holds = held_there places k generation v was in
      let after : map slot_of (set places k new) ≡ set slots k (empty_slot generation) = rw (map-set, emptied) in
      subst IsArena (sym after) (IsArena-set slots k (empty_slot generation) (slice_get_within slots k _ holds) lawful (lawful k _ holds).0 (λ has. absurd (cc)))

  emptied_count : (places : List (Place T)) (k generation : ℕ) (v : T) (new : Place T) → WasFull places k generation v → slot_of new ≡ empty_slot generation → free_slots (map slot_of (set places k new)) ≡ free_slots (map slot_of places) + weight (empty_slot {T = T} generation)
  emptied_count places k generation v new was emptied =
      let slots = map slot_of places in
      let moved = free_slots-set slots k (full_slot generation v) (empty_slot generation) (held_there places k generation v was) in
      let after : map slot_of (set places k new) ≡ set slots k (empty_slot generation) = rw (map-set, emptied) in
      let now : free_slots (map slot_of (set places k new)) ≡ free_slots (set slots k (empty_slot generation)) = ap free_slots after in
      omega (arith, moved, now)

  -- An emptied place becomes the head, if it has a generation left.
  pub IsSound-relisted : (places : List (Place T)) (first count k generation : ℕ) (v : T) (new : Place T) → IsSoundArena places first count → WasFull places k generation v → slot_of new ≡ empty_slot generation → new.next ≡ first → generation < greatest_generation → IsSoundArena (set places k new) k (suc count)
  IsSound-relisted places first count k generation v new sound was emptied names below =
      let now = is_free-empty_slot T generation below in
      let same : place_at (set places k new) k ≡ new = get_or-set_same places k new no_place was.there in
      let chain = chain-set_taken places first k count new (taken_there places k generation v was) sound.chained in
      let P : ℕ → Type 0 = λ n. IsFreeChain (set places k new) n count in
      record {
        lawful = emptied_lawful places k generation v new sound.lawful was emptied;
        chained = (
          omega (arith, was.there, length-set places k new),
          ap (λ place. is_free (slot_of place)) same ∙ ap is_free emptied ∙ now,
          subst P (sym (ap (λ place. place.next) same ∙ names)) chain,
        );
        count =
            let moved = emptied_count places k generation v new was emptied in
            let one : weight {T = T} (empty_slot generation) ≡ 1 = ap one_if now in
            let before = sound.count in
            omega (arith, moved, one, before);
        few = let long = length-set places k new in omega (arith, long, sound.few);
      }

  -- Otherwise it is left out.
  pub IsSound-worn : (places : List (Place T)) (first count k generation : ℕ) (v : T) (new : Place T) → IsSoundArena places first count → WasFull places k generation v → slot_of new ≡ empty_slot generation → greatest_generation ≤ generation → IsSoundArena (set places k new) first count
  IsSound-worn places first count k generation v new sound was emptied above =
      record {
        lawful = emptied_lawful places k generation v new sound.lawful was emptied;
        chained = chain-set_taken places first k count new (taken_there places k generation v was) sound.chained;
        count =
            let moved = emptied_count places k generation v new was emptied in
            let none : weight {T = T} (empty_slot generation) ≡ 0 = ap one_if (is_free-worn T generation above) in
            let before = sound.count in
            omega (arith, moved, none, before);
        few = let long = length-set places k new in omega (arith, long, sound.few);
      }

  -- Fresh places form a chain, from any place on.
  fresh_chain : (places : List (Place T)) (count used k n : ℕ) → used < greatest_generation → AreFresh places count used → k + n ≡ count → IsFreeChain places k n
  fresh_chain places count used k zero below fresh long = omega (arith, long, fresh.0)
  fresh_chain places count used k (suc n) below fresh long =
      let within : k < count = omega (arith, long) in
      let is = fresh.1 k within in
      let P : Place T → Type 0 = λ place. IsFreeChain places place.next n in (
        omega (arith, within, fresh.0),
        ap (λ place. is_free (slot_of place)) is ∙ is_free-empty_slot T used below,
        subst P (sym is) (fresh_chain places count used (k + 1) n below fresh (omega (arith, long))),
      )

  all_empty : (n used k : ℕ) (slot : Slot T) → slice_get (unused_slots {T = T} n used) k ≡ Some slot → slot ≡ empty_slot used
  all_empty n used k slot holds =
      let within = slice_get_within (unused_slots {T = T} n used) k slot holds in
      let below : k < n = omega (arith, within, length-replicate n (empty_slot {T = T} used)) in
      sym (get_or_from_slice_get (unused_slots {T = T} n used) k slot (empty_slot used) holds) ∙ get_or-replicate n k (empty_slot used) (empty_slot used) below

  fresh_lawful : (places : List (Place T)) (count used : ℕ) → used ≤ greatest_generation → AreFresh places count used → IsArena (map slot_of places)
  fresh_lawful places count used most fresh =
      subst IsArena (sym (AreFresh-slots places count used fresh)) (λ k slot holds.
      let P : Slot T → Type 0 = λ s. (s.generation ≤ greatest_generation) × (IsSome s.value → 1 ≤ s.generation) in
      subst P (sym (all_empty count used k slot holds)) (most, λ has. absurd (cc)))

  fresh_count : (places : List (Place T)) (count used : ℕ) → AreFresh places count used → free_slots (map slot_of places) ≡ count * weight {T = T} (empty_slot used)
  fresh_count places count used fresh =
      ap free_slots (AreFresh-slots places count used fresh) ∙ sum_by-replicate (weight {T = T}) count (empty_slot used)

  -- An arena of fresh places.
  pub IsSound-fresh : (places : List (Place T)) (count used : ℕ) → count ≤ 65535 → AreFresh places count used → used < greatest_generation → IsSoundArena places 0 count
  IsSound-fresh places count used few fresh below =
      record {
        lawful = fresh_lawful places count used (omega (arith, below)) fresh;
        chained = fresh_chain places count used 0 count below fresh (omega arith);
        count =
            let one : weight {T = T} (empty_slot used) ≡ 1 = ap one_if (is_free-empty_slot T used below) in
            let all : count * weight {T = T} (empty_slot used) ≡ count * 1 = ap (λ n. count * n) one in
            omega (arith, fresh_count places count used fresh, all);
        few = omega (arith, few, fresh.0);
      }

  pub IsSound-worn_out : (places : List (Place T)) (count used : ℕ) → count ≤ 65535 → AreFresh places count used → used ≡ greatest_generation → IsSoundArena places count 0
  IsSound-worn_out places count used few fresh worn =
      record {
        lawful = fresh_lawful places count used (omega (arith, worn)) fresh;
        chained = sym fresh.0;
        count =
            let none : weight {T = T} (empty_slot used) ≡ 0 = ap one_if (is_free-worn T used (omega (arith, worn))) in
            let all : count * weight {T = T} (empty_slot used) ≡ count * 0 = ap (λ n. count * n) none in
            omega (arith, fresh_count places count used fresh, all);
        few = omega (arith, few, fresh.0);
      }

  pub Inserts-filled : (places : List (Place T)) (count : ℕ) (id : Id) (new : Place T) (v : T) → 0 < count → IsSoundArena places id.slot count → id.generation ≡ (place_at places id.slot).generation + 1 → slot_of new ≡ full_slot id.generation v → Inserts (map slot_of places) (map slot_of (set places id.slot new)) id v
  Inserts-filled places count id new v some sound next filled =
      let start = starts_at places id.slot count some sound.chained in
      record {
        taken = slot_of (place_at places id.slot);
        held = slot_at places id.slot start.there;
        was_free = start.free;
        next = next;
        after = rw (map-set, filled);
      }

  -- The id is live, and its place has its value.
  pub record IsHeld (places : List (Place T)) (id : Id) : Type 0 where
    pub value : T
    pub live : live_value (map slot_of places) id ≡ Some value
    pub was : WasFull places id.slot id.generation value

  pub held_by : (places : List (Place T)) (id : Id) → IsLive (map slot_of places) id → IsHeld places id
  held_by places id live =
      let some = value_of_live (map slot_of places) id live in
      let holds = slot_of_live (map slot_of places) id some.0 some.1 in
      let there : id.slot < length places = omega (arith, slice_get_within (map slot_of places) id.slot _ holds, length-map places (slot_of {T = T})) in
      let twice : Some (slot_of (place_at places id.slot)) ≡ Some (full_slot id.generation some.0) = sym (slot_at places id.slot there) ∙ holds in
      record { value = some.0; live = some.1; was = record { there = there; full = cc } }

  pub Removes-emptied : (places : List (Place T)) (id : Id) (new : Place T) (held : IsHeld places id) → slot_of new ≡ empty_slot id.generation → Removes (map slot_of places) (map slot_of (set places id.slot new)) id held.value
  Removes-emptied places id new held emptied = record { was = held.live; after = rw (map-set, emptied) }

  -- The place of this number, emptied.
  abbrev pub emptied_place : List (Place T) → ℕ → ℕ → Place T
  emptied_place places k next = record { generation = (place_at places k).generation; next = next; value = None }

  pub emptied_slot : (places : List (Place T)) (id : Id) (held : IsHeld places id) (next : ℕ) → slot_of (emptied_place places id.slot next) ≡ empty_slot id.generation
  emptied_slot places id held next = λ i. record { generation = (held.was.full i).generation; value = None }

  pub IfSome-at : (P : T → Type 0) (o : Option T) (v : T) → o ≡ Some v → P v → IfSome o P
  IfSome-at P o v is p = let Q : Option T → Type 0 = λ x. IfSome x P in subst Q (sym is) p
