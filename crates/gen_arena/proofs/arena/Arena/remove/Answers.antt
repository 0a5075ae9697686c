use Rattle.std.proofs.Common.{◌≡◌, ℕ, suc, List, Some, map, set, length, length-set, refl, sym, ap, ◌∙◌, subst, inl, inr, arith}
use Rattle.std.proofs.lemmas.Bool.{cases_lt}
use Rattle.gen_arena.specs.Slot.{Slot, greatest_generation}
use Rattle.gen_arena.specs.Remove.{Removes}
use Rattle.gen_arena.specs.declared.place.Place.{Place}
use Rattle.gen_arena.specs.inner.PlaceRow.{IsReached}
use Rattle.gen_arena.specs.inner.Chain.{slot_of, IsSoundArena}
use Rattle.gen_arena.proofs.PastLemmas.{Removes-past, Removes-is_past}
use Rattle.gen_arena.proofs.ChainLemmas.{IsHeld, held_by, emptied_place, emptied_slot, held_there, Removes-emptied, IsSound-relisted, IsSound-worn, IfSome-at, room_for_one}
use Rattle.gen_arena.proofs.arena.Arena.remove.Given as given
use Rattle.gen_arena.proofs.arena.Arena.remove.Goals as goal

pub relisted-requires : goal.relisted-requires
relisted-requires g c below =
    let held = held_by c.self.inside.places.places c.args.id (rw (← c.self.view_is) at (c.if-not-holds.ensures.live.0 refl)) in
    room_for_one c.self.inside.places.places c.self.inside.first c.self.inside.free c.args.id.slot c.args.id.generation held.value c.self.invariant.0 held.was

held : (g : given.Over) (c : goal.After-self-2-1 g) → IsHeld c.self.inside.places.places c.args.id
held g c = held_by c.self.inside.places.places c.args.id (rw (← c.self.view_is) at (c.if-not-holds.ensures.live.0 refl))

-- The emptied place after the call.
abbrev new_place : (g : given.Over) (c : goal.After-self-2-1 g) → Place g.row.T.Denot
new_place g c = emptied_place c.self.inside.places.places c.args.id.slot c.self.inside.first

reached_after : (g : given.Over) (c : goal.After-self-2-1 g) → IsReached c.empty-value.new.self c.relisted.result.0
reached_after g c within =
    let id = c.args.id in
    let row = c.self.inside.places in
    let emptied = c.empty-value.ensures in
    let long = ap length emptied.after ∙ length-set row.places id.slot _ in
    elim (cases_lt id.generation greatest_generation) [
      | inl below ↦
          let now = c.relisted.ensures.first below in
          omega (arith, now.0, emptied.below, emptied.fresh)
      | inr above ↦
          let now = c.relisted.ensures.worn above in
          let most = c.self.invariant.1 (omega (arith, within, now.0, long)) in
          omega (arith, now.0, most, emptied.fresh)
    ]

pub invariant_of-self : goal.invariant_of-self
invariant_of-self g c =
    let places = c.self.inside.places.places in
    let id = c.args.id in
    let first = c.self.inside.first in
    let free = c.self.inside.free in
    let listed = c.relisted.ensures in
    let emptied = emptied_slot places id (held g c) first in
    let after = set places id.slot (new_place g c) in
    let Of : List (Place g.row.T.Denot) → Type 0 = λ ps. IsSoundArena ps c.relisted.result.0 c.relisted.result.1 in
    let listed_so : (m n : ℕ) → m ≡ c.relisted.result.0 → n ≡ c.relisted.result.1 → IsSoundArena after m n → IsSoundArena after c.relisted.result.0 c.relisted.result.1 = λ m n e f sound.
    let From : ℕ → Type 0 = λ j. IsSoundArena after j n in
    let Count : ℕ → Type 0 = λ j. IsSoundArena after c.relisted.result.0 j in
    subst Count f (subst From e sound) in (
      subst Of (sym c.empty-value.ensures.after) (elim (cases_lt id.generation greatest_generation) [
        | inl below ↦
            let now = listed.first below in
            let one_more : c.relisted.result.1 ≡ suc free = omega (arith, now.1) in
            let sound = IsSound-relisted places first free id.slot id.generation (held g c).value (new_place g c) c.self.invariant.0 (held g c).was emptied refl below in
            listed_so _ _ (sym now.0) (sym one_more) sound
        | inr above ↦
            let now = listed.worn above in
            listed_so _ _ (sym now.0) (sym now.1) (IsSound-worn places first free id.slot id.generation (held g c).value (new_place g c) c.self.invariant.0 (held g c).was emptied above)
      ]),
      reached_after g c,
    )

taken : (g : given.Over) (c : goal.After-self-2-1 g) → c.empty-value.result ≡ Some (held g c).value
taken g c = c.empty-value.ensures.value ∙ ap (λ slot. slot.value) (held g c).was.full

removes : (g : given.Over) (c : goal.After-self-2-1 g) → Removes c.args.self.now (map slot_of c.empty-value.new.self.places) c.args.id (held g c).value
removes g c =
    let places = c.self.inside.places.places in
    let id = c.args.id in
    let done = Removes-emptied places id (new_place g c) (held g c) (emptied_slot places id (held g c) c.self.inside.first) in
    let Into : List (Place g.row.T.Denot) → Type 0 = λ ps. Removes (map slot_of places) (map slot_of ps) id (held g c).value in
    let Onto : List (Slot g.row.T.Denot) → Type 0 = λ old. Removes old (map slot_of c.empty-value.new.self.places) id (held g c).value in
    subst Onto c.self.view_is (subst Into (sym c.empty-value.ensures.after) done)

pub returns-clause-value : goal.returns-clause-value
returns-clause-value g c = taken g c ∙ sym (removes g c).was

pub returns-clause-removed : goal.returns-clause-removed
returns-clause-removed g c = IfSome-at _ _ (held g c).value (taken g c) (removes g c)

pub returns-clause-past : goal.returns-clause-past
returns-clause-past g c =
    let holds = held g c in
    let given = (c.self.invariant.0.lawful c.args.id.slot _ (held_there c.self.inside.places.places c.args.id.slot c.args.id.generation holds.value holds.was)).1 refl in
    IfSome-at _ _ holds.value (taken g c) (Removes-is_past _ _ _ _ (removes g c) given)

pub returns-clause-stays_past : goal.returns-clause-stays_past
returns-clause-stays_past g c = Removes-past _ _ _ _ (removes g c)
