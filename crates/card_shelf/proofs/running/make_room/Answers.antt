use Rattle.std.proofs.Common.{◌≡◌, ◌<◌, ℕ, Some, length, set, get_or, Vec, Global, vec_len, refl, sym, ap, ◌∙◌, subst, inl, inr, arith}
use Rattle.std.specs.Prelude.{slice_get, slice_index_or}
use Rattle.std.proofs.lemmas.Option.{slice_get_read, slice_get-get_or, slice_get_within, get_or_from_slice_get}
use Rattle.card_shelf.specs.declared.card.Card.{Card}
use Rattle.card_shelf.specs.inner.Cards.{cores_of, IsReady}
use Rattle.card_shelf.specs.inner.Rooms.{CardsRoom}
use Rattle.gen_arena.proofs.Public.{slice_get-set}
use Rattle.card_shelf.proofs.CardLemmas.{core_in, cores-set}
use Rattle.card_shelf.proofs.RoomLemmas.{cards-room-set}
use Rattle.card_shelf.proofs.running.make_room.Goals as goal
use Rattle.card_shelf.proofs.running.make_room.Goals.{After-make_room}

cores : (c : After-make_room) → cores_of (set c.loop-number.cards c.loop-number.number c.make_room.new.self) ≡ cores_of c.args.cards.now
cores c =
    let below : c.loop-number.number < length c.args.cards.now = c.loop-number-test.true in
    cores-set c.loop-number.cards c.loop-number.number c.index-cards-number.result c.make_room.new.self
    (slice_get_read c.loop-number.cards (length c.loop-number.cards) c.loop-number.number c.index-cards-number.result refl
    (omega (arith, below, c.loop-number.auto.cards)) c.index-cards-number.is)
    (c.make_room.ensures.core ∙ ap core_in (sym c.index-cards-number.is))
    ∙ c.loop-number.invariant.cores

pub returns-in_err-make_room-clause-cores : goal.returns-in_err-make_room-clause-cores
returns-in_err-make_room-clause-cores c = cores (goal.at.returns-in_err-make_room-clause-cores c).After-make_room

card_there : (c : After-make_room) → slice_get c.loop-number.cards c.loop-number.number ≡ Some (get_or c.loop-number.cards c.loop-number.number c.index-cards-number.result)
card_there c =
    slice_get-get_or c.loop-number.cards c.loop-number.number c.index-cards-number.result (omega (arith, c.loop-number-test.true, c.loop-number.auto.cards))

kept : (c : After-make_room) (most : ℕ) → CardsRoom most c.args.cards.now → CardsRoom most (set c.loop-number.cards c.loop-number.number c.make_room.new.self)
kept c most room =
    cards-room-set most c.loop-number.cards c.loop-number.number (get_or c.loop-number.cards c.loop-number.number c.index-cards-number.result)
    c.make_room.new.self (card_there c) c.make_room.ensures.grown (c.loop-number.invariant.kept most room)

pub returns-in_err-make_room-clause-kept : goal.returns-in_err-make_room-clause-kept
returns-in_err-make_room-clause-kept c = kept (goal.at.returns-in_err-make_room-clause-kept c).After-make_room

pub returns-in_err-make_room-clause-succeeds : goal.returns-in_err-make_room-clause-succeeds
returns-in_err-make_room-clause-succeeds c most room short =
    let d = (goal.at.returns-in_err-make_room-clause-succeeds c).After-make_room in
    let n = c.loop-number.number in
    let places = get_or c.args.dealt.now n c.index-dealt-number.result in
    let had = c.loop-number.invariant.kept most room n (get_or c.loop-number.cards n c.index-cards-number.result) (card_there d) in
    let few = short n places (slice_get-get_or c.args.dealt.now n c.index-dealt-number.result (omega (arith, c.loop-number-test.true, c.requires))) in
    let many : c.len.result ≡ length places.items = c.len.ensures ∙ ap (λ (v : Vec ℕ Global). vec_len v) c.index-dealt-number.is ∙ places.ok.0 in
    absurd (omega (arith, had, few, many, c.in_err-make_room.ensures.full))

pub loop-number-preserved : goal.loop-number-preserved
loop-number-preserved c =
    record {
      cores = cores (goal.at.loop-number-preserved c).After-make_room;
      ready = λ number card places below is at. elim (slice_get-set c.loop-number.cards c.loop-number.number number c.make_room.new.self card is) [
        | inl same ↦
            let here : slice_get c.args.dealt.now c.loop-number.number ≡ Some places = ap (slice_get c.args.dealt.now) (sym same.0) ∙ at in
            let dealt_is : slice_index_or c.args.dealt.now c.loop-number.number c.index-dealt-number.result ≡ places =
            get_or_from_slice_get c.args.dealt.now c.loop-number.number places c.index-dealt-number.result here in
            let many : c.len.result ≡ length places.items =
            c.len.ensures ∙ ap (λ (v : Vec ℕ Global). vec_len v) (c.index-dealt-number.is ∙ dealt_is) ∙ places.ok.0 in
            subst (λ (n : ℕ). IsReady card n) many (subst (λ (x : Card). IsReady x c.len.result) same.1 c.in_ok-make_room.ensures.ready)
        | inr apart ↦ c.loop-number.invariant.ready number card places (let ne = apart.0 in omega arith) apart.1 at
      ];
      kept = kept (goal.at.loop-number-preserved c).After-make_room;
    }

pub returns-clause-ready : goal.returns-clause-ready
returns-clause-ready c number card places is at =
    let low = c.loop-number-test.false in
    c.loop-number.invariant.ready number card places (omega (arith, low, slice_get_within c.loop-number.cards number card is, c.loop-number.auto.cards)) is at
