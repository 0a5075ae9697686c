use Rattle.std.proofs.Common.{◌≡◌, ◌<◌, Some, length, Vec, Global, ℕ, vec_capacity, refl, sym, ap, ◌∙◌, inl, inr, arith}
use Rattle.std.specs.Prelude.{slice_get}
use Rattle.std.proofs.lemmas.Option.{slice_get_read, slice_get_within}
use Rattle.gen_arena.proofs.Public.{slice_get-set}
use Rattle.card_shelf.proofs.RoomLemmas.{room-set}
use Rattle.card_shelf.proofs.dealing.clear_all.Goals as goal

pub loop-number-preserved : goal.loop-number-preserved
loop-number-preserved c =
    let n = c.loop-number.number in
    let lists = c.loop-number.lists in
    let old = c.index-lists-number.result in
    let below : n < length lists = omega (arith, c.loop-number-test.true, c.loop-number.auto.lists) in
    let here : slice_get lists n ≡ Some old = slice_get_read lists (length lists) n old refl below c.index-lists-number.is in
    let same_room : vec_capacity c.clear.new.self ≡ vec_capacity old =
    c.clear.ensures.capacity ∙ ap (λ (v : Vec ℕ Global). vec_capacity v) (sym c.index-lists-number.is) in
    record {
      empty = λ k places before e. elim (slice_get-set lists n k c.clear.new.self places e) [
        | inl same ↦ ap (λ (v : Vec ℕ Global). v.items) (sym same.1) ∙ c.clear.ensures.items
        | inr apart ↦ c.loop-number.invariant.empty k places (let ne = apart.0 in omega (arith, before, ne)) apart.1
      ];
      kept = λ most room. room-set most lists n old c.clear.new.self here (omega (arith, same_room)) (c.loop-number.invariant.kept most room);
    }

pub returns-clause-empty : goal.returns-clause-empty
returns-clause-empty c number places e =
    let low = c.loop-number-test.false in
    c.loop-number.invariant.empty number places (omega (arith, low, slice_get_within c.loop-number.lists number places e, c.loop-number.auto.lists)) e
