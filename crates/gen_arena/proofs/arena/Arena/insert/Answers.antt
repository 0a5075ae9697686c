use Rattle.std.proofs.Common.{◌≡◌, ℕ, ◌-◌, ◌<◌, List, Some, map, set, sym, ap, ◌∙◌, subst, arith}
use Rattle.gen_arena.specs.Slot.{Slot, full_slot}
use Rattle.gen_arena.specs.Free.{free_slots}
use Rattle.gen_arena.specs.Insert.{Inserts}
use Rattle.gen_arena.specs.declared.id.Id.{Id}
use Rattle.gen_arena.specs.declared.place.Place.{Place}
use Rattle.gen_arena.specs.inner.Chain.{slot_of, IsSoundArena}
use Rattle.gen_arena.proofs.ChangeLemmas.{none_from_zero}
use Rattle.gen_arena.proofs.PastLemmas.{Inserts-live, Inserts-past}
use Rattle.gen_arena.proofs.ChainLemmas.{IsSound-filled, Inserts-filled}
use Rattle.gen_arena.proofs.arena.Arena.insert.Given as given
use Rattle.gen_arena.proofs.arena.Arena.insert.Goals as goal

pub returns-then-self-eq0-clause-none_is_free : goal.returns-then-self-eq0-clause-none_is_free
returns-then-self-eq0-clause-none_is_free g c =
    let sound = c.self.invariant.0 in
    let counted : free_slots (map slot_of c.self.inside.places.places) ≡ 0 = sym sound.count ∙ c.if-self-eq0.true in
    rw (← c.self.view_is) (none_from_zero (map slot_of c.self.inside.places.places) sound.lawful counted)

-- The filled place after the call.
abbrev new_place : (g : given.Over) (c : goal.After-self-2-1 g) → Place g.row.T.Denot
new_place g c =
    record { generation = c.fill-generation.result.0; next = c.fill-generation.result.1; value = Some c.args.value }

pub invariant_of-self : goal.invariant_of-self
invariant_of-self g c =
    let places = c.self.inside.places.places in
    let first = c.self.inside.first in
    let free = c.self.inside.free in
    let filled = c.fill-generation.ensures in
    let some : 0 < free = omega (arith, c.if-self-eq0.false) in
    let sound = IsSound-filled places first free (new_place g c) c.args.value some c.self.invariant.0 (ap (λ n. full_slot n c.args.value) filled.generation) in
    let From : ℕ → Type 0 = λ n. IsSoundArena (set places first (new_place g c)) n (free - 1) in
    let Of : List (Place g.row.T.Denot) → Type 0 = λ ps. IsSoundArena ps c.fill-generation.result.1 (free - 1) in
    (subst Of (sym filled.after) (subst From (sym filled.next) sound), filled.reached)

pub returns-clause-inserted : goal.returns-clause-inserted
returns-clause-inserted g c =
    let places = c.self.inside.places.places in
    let filled = c.fill-generation.ensures in
    let id : Id = record { slot = c.self.inside.first; generation = c.fill-generation.result.0 } in
    let some : 0 < c.self.inside.free = omega (arith, c.if-self-eq0.false) in
    let inserts = Inserts-filled places c.self.inside.free id (new_place g c) c.args.value some c.self.invariant.0 filled.generation (λ i. full_slot id.generation c.args.value) in
    let Into : List (Place g.row.T.Denot) → Type 0 = λ ps. Inserts (map slot_of places) (map slot_of ps) id c.args.value in
    let Onto : List (Slot g.row.T.Denot) → Type 0 = λ old. Inserts old (map slot_of c.fill-generation.new.self.places) id c.args.value in
    subst Onto c.self.view_is (subst Into (sym filled.after) inserts)

pub returns-clause-live : goal.returns-clause-live
returns-clause-live g c = Inserts-live _ _ _ _ (returns-clause-inserted g c)

pub returns-clause-past : goal.returns-clause-past
returns-clause-past g c = Inserts-past _ _ _ _ (returns-clause-inserted g c)
