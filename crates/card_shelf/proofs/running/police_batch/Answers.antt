use Rattle.std.proofs.Common.{◌≤◌, ℕ, List, length, Vec, Global, sym, ap, ◌∙◌, subst, arith, true≢false}
use Rattle.std.specs.Prelude.{slice_get}
use Rattle.std.proofs.lemmas.Option.{slice_get_within}
use Rattle.card_core.specs.Agreement.{CoreView}
use Rattle.card_shelf.specs.inner.Rest.{IsAtRest}
use Rattle.card_shelf.specs.inner.Rooms.{AreShort, HaveRoom}
use Rattle.card_shelf.proofs.CardLemmas.{core-at, card-of-core}
use Rattle.card_shelf.proofs.Lists.{there, overwritten}
use Rattle.card_shelf.proofs.RunningLemmas.{has-one-each, polices, each-serves}
use Rattle.card_shelf.proofs.running.police_batch.Goals as goal

pub returns-in_err-deal-clause-room : goal.returns-in_err-deal-clause-room
returns-in_err-deal-clause-room g c count most had =
    let items = overwritten c.args.batch.now.dealt.len c.args.batch.now.dealt.items c.deal.new.dealt c.args.batch.now.dealt.ok.0 (c.deal.auto.dealt ∙ ap length c.as_mut_slice.ensures.value) in
    record {
      sized = ap length items ∙ c.deal.auto.dealt ∙ ap length c.as_mut_slice.ensures.value ∙ had.sized;
      dealt = subst (HaveRoom most) (sym items) (c.deal.ensures.kept most (subst (HaveRoom most) (sym c.as_mut_slice.ensures.value) had.dealt));
      numbers = omega (arith, had.numbers, c.deal.ensures.grown);
      decisions = had.decisions;
    }

pub returns-in_err-reserve-clause-room : goal.returns-in_err-reserve-clause-room
returns-in_err-reserve-clause-room g c count most had =
    let items = overwritten c.args.batch.now.dealt.len c.args.batch.now.dealt.items c.deal.new.dealt c.args.batch.now.dealt.ok.0 (c.deal.auto.dealt ∙ ap length c.as_mut_slice.ensures.value) in
    record {
      sized = ap length items ∙ c.deal.auto.dealt ∙ ap length c.as_mut_slice.ensures.value ∙ had.sized;
      dealt = subst (HaveRoom most) (sym items) (c.deal.ensures.kept most (subst (HaveRoom most) (sym c.as_mut_slice.ensures.value) had.dealt));
      numbers = omega (arith, had.numbers, c.deal.ensures.grown);
      decisions = omega (arith, had.decisions, c.clear.ensures.capacity, c.reserve.ensures.capacity);
    }

pub returns-in_err-make_room-clause-succeeds : goal.returns-in_err-make_room-clause-succeeds
returns-in_err-make_room-clause-succeeds g c count had room =
    let items = overwritten c.args.batch.now.dealt.len c.args.batch.now.dealt.items c.deal.new.dealt c.args.batch.now.dealt.ok.0 (c.deal.auto.dealt ∙ ap length c.as_mut_slice.ensures.value) in
    absurd (true≢false (sym (c.in_err-make_room.ensures.succeeds (length c.args.arrivals.now) room
    (subst (AreShort (length c.args.arrivals.now)) (sym (c.as_slice.ensures.value ∙ items)) c.in_ok-deal.ensures.short))))

pub returns-in_err-make_room-clause-room : goal.returns-in_err-make_room-clause-room
returns-in_err-make_room-clause-room g c count most had =
    let items = overwritten c.args.batch.now.dealt.len c.args.batch.now.dealt.items c.deal.new.dealt c.args.batch.now.dealt.ok.0 (c.deal.auto.dealt ∙ ap length c.as_mut_slice.ensures.value) in
    record {
      sized = ap length items ∙ c.deal.auto.dealt ∙ ap length c.as_mut_slice.ensures.value ∙ had.sized;
      dealt = subst (HaveRoom most) (sym items) (c.deal.ensures.kept most (subst (HaveRoom most) (sym c.as_mut_slice.ensures.value) had.dealt));
      numbers = omega (arith, had.numbers, c.deal.ensures.grown);
      decisions = omega (arith, had.decisions, c.clear.ensures.capacity, c.reserve.ensures.capacity);
    }

pub police_each-requires-clause-rest : goal.police_each-requires-clause-rest
police_each-requires-clause-rest g c κs within number card e =
    c.requires.rest number card.core
    (ap (λ (cs : List CoreView). slice_get cs number) (sym c.in_ok-make_room.ensures.cores) ∙ core-at c.make_room.new.cards number card e)

pub gather-requires-clause-each : goal.gather-requires-clause-each
gather-requires-clause-each g c =
    let items = overwritten c.args.batch.now.dealt.len c.args.batch.now.dealt.items c.deal.new.dealt c.args.batch.now.dealt.ok.0 (c.deal.auto.dealt ∙ ap length c.as_mut_slice.ensures.value) in
    has-one-each c.args.side c.args.arrivals.now c.args.cards.now c.make_room.new.cards c.police_each.new.cards c.deal.new.dealt
    c.in_ok-make_room.ensures.cores c.make_room.auto.cards c.police_each.auto.cards
    (omega (arith, c.requires.sized, c.deal.auto.dealt, ap length c.as_mut_slice.ensures.value))
    c.in_ok-deal.ensures.own
    (λ number card next places here after at. c.police_each.ensures.served number card next places here after
    (ap (λ (ds : List (Vec ℕ Global)). slice_get ds number) (c.as_slice-2.ensures.value ∙ items) ∙ at))

pub returns-clause-batch : goal.returns-clause-batch
returns-clause-batch g c =
    let items = overwritten c.args.batch.now.dealt.len c.args.batch.now.dealt.items c.deal.new.dealt c.args.batch.now.dealt.ok.0 (c.deal.auto.dealt ∙ ap length c.as_mut_slice.ensures.value) in
    let enough : length c.args.cards.now ≤ length c.deal.new.dealt = omega (arith, c.requires.sized, c.deal.auto.dealt, ap length c.as_mut_slice.ensures.value) in
    let decisions = c.gather.new.decisions.items in
    record {
      policed = polices c.args.side c.args.arrivals.now c.args.cards.now c.make_room.new.cards c.police_each.new.cards c.deal.new.dealt
          c.in_ok-make_room.ensures.cores c.make_room.auto.cards c.police_each.auto.cards enough c.in_ok-deal.ensures.own
          (λ number card next places here after at. c.police_each.ensures.served number card next places here after
          (ap (λ (ds : List (Vec ℕ Global)). slice_get ds number) (c.as_slice-2.ensures.value ∙ items) ∙ at))
          decisions c.requires.some c.gather.ensures.one_each c.gather.ensures.own;
      each = each-serves c.args.side c.args.arrivals.now c.args.cards.now c.make_room.new.cards c.police_each.new.cards c.deal.new.dealt
          c.in_ok-make_room.ensures.cores c.make_room.auto.cards c.police_each.auto.cards enough c.in_ok-deal.ensures.own
          (λ number card next places here after at. c.police_each.ensures.served number card next places here after
          (ap (λ (ds : List (Vec ℕ Global)). slice_get ds number) (c.as_slice-2.ensures.value ∙ items) ∙ at))
          decisions c.gather.ensures.own;
      one_each = c.gather.ensures.one_each;
    }

pub returns-clause-rest : goal.returns-clause-rest
returns-clause-rest g c number core e =
    let card = card-of-core c.police_each.new.cards number core e in
    subst IsAtRest card.2 (c.police_each.ensures.rest number card.0 card.1)

pub returns-clause-room : goal.returns-clause-room
returns-clause-room g c count most had =
    let items = overwritten c.args.batch.now.dealt.len c.args.batch.now.dealt.items c.deal.new.dealt c.args.batch.now.dealt.ok.0 (c.deal.auto.dealt ∙ ap length c.as_mut_slice.ensures.value) in
    record {
      sized = ap length items ∙ c.deal.auto.dealt ∙ ap length c.as_mut_slice.ensures.value ∙ had.sized;
      dealt = subst (HaveRoom most) (sym items) (c.deal.ensures.kept most (subst (HaveRoom most) (sym c.as_mut_slice.ensures.value) had.dealt));
      numbers = omega (arith, had.numbers, c.deal.ensures.grown);
      decisions = omega (arith, had.decisions, c.clear.ensures.capacity, c.reserve.ensures.capacity, c.gather.ensures.capacity);
    }

pub returns-clause-cards_room : goal.returns-clause-cards_room
returns-clause-cards_room g c most room number card e =
    let before = there c.make_room.new.cards number (omega (arith, slice_get_within c.police_each.new.cards number card e, c.police_each.auto.cards)) in
    let had = c.in_ok-make_room.ensures.kept most room number before.0 before.1 in
    let same = c.police_each.ensures.capacity number before.0 card before.1 e in
    omega (arith, had, same)
