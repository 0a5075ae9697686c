use Rattle.std.proofs.Common.{◌≡◌, ◌+◌, ◌<◌, ◌≤◌, ℕ, Some, List, [], ◌∷◌, length, map, set, get_or, Vec, Global, vec_len, vec_capacity, refl, sym, ap, ◌∙◌, subst, arith, length-set}
use Rattle.std.specs.Prelude.{slice_get, option_map}
use Rattle.std.proofs.lemmas.List.{map-set, length-append}
use Rattle.std.proofs.lemmas.Option.{slice_get-map, slice_get_read, slice_get-get_or}
use Rattle.card_shelf.specs.Dealing.{card_of, card_for}
use Rattle.card_shelf.specs.inner.Places.{IsDealt, AreOwn}
use Rattle.card_shelf.proofs.CardLemmas.{mapped}
use Rattle.card_shelf.proofs.DealLemmas.{deal-next, deal-all, numbers-next}
use Rattle.card_shelf.proofs.RoomLemmas.{room-set, short-set}
use Rattle.card_shelf.proofs.dealing.deal.Goals as goal
use Rattle.card_shelf.proofs.dealing.deal.Goals.{After-loop-place, After-push}

abbrev items : Vec ℕ Global → List ℕ
items places = places.items

pub loop-place-init : goal.loop-place-init
loop-place-init c =
    let lists = c.clear_all.new.lists in
    record {
      dealt = λ number places e.
          let it = mapped items (slice_get lists number) places (sym (slice_get-map items lists number) ∙ e) in
          subst (AreOwn c.args.side c.args.cards c.args.arrivals.now 0 number) (sym (c.clear_all.ensures.empty number it.0 it.1) ∙ it.2)
          (record { own = refl; within = λ k d below. absurd (omega (arith, below)) });
      short = λ number places e. omega (arith, ap length (c.clear_all.ensures.empty number places e));
      sized = c.clear_all.auto.lists;
      kept = c.clear_all.ensures.kept;
      numbers = c.reserve.ensures.items ∙ c.clear.ensures.items;
      many = c.reserve.ensures.len ∙ c.clear.ensures.len;
      room = omega (arith, c.in_ok-reserve.ensures.ok);
      grown = omega (arith, c.reserve.ensures.capacity, c.clear.ensures.capacity);
    }

abbrev read : After-push → Vec ℕ Global
read c = get_or c.loop-place.dealt c.card_of-number.result c.index-dealt-number.result

read_there : (c : After-push) → slice_get c.loop-place.dealt c.card_of-number.result ≡ Some (read c)
read_there c =
    slice_get-get_or c.loop-place.dealt c.card_of-number.result c.index-dealt-number.result
    (omega (arith, c.card_of-number.ensures.within, c.loop-place.invariant.sized, c.requires.sized))

pub returns-in_err-push-clause-kept : goal.returns-in_err-push-clause-kept
returns-in_err-push-clause-kept c most room =
    let d = (goal.at.returns-in_err-push-clause-kept c).After-push in
    room-set most c.loop-place.dealt c.card_of-number.result (read d) c.push.new.self (read_there d) c.push.ensures.capacity
    (c.loop-place.invariant.kept most room)

pub returns-in_err-push-clause-succeeds : goal.returns-in_err-push-clause-succeeds
returns-in_err-push-clause-succeeds c room many =
    let d = (goal.at.returns-in_err-push-clause-succeeds c).After-push in
    let had = c.loop-place.invariant.kept (length c.args.arrivals.now) room c.card_of-number.result (read d) (read_there d) in
    let short = c.loop-place.invariant.short c.card_of-number.result (read d) (read_there d) in
    let full : vec_capacity (read d) ≤ vec_len (read d) = c.in_err-push.ensures.full in
    absurd (omega (arith, had, short, full, (read d).ok.0, c.loop-place-test.true))

pub loop-place-preserved : goal.loop-place-preserved
loop-place-preserved c =
    let d = (goal.at.loop-place-preserved c).After-push in
    let arrivals = c.args.arrivals.now in
    let count = c.loop-place.place in
    let dealt = c.loop-place.dealt in
    let number = c.card_of-number.result in
    let arrival = c.index-arrivals-place.result in
    let below : count < length arrivals = c.loop-place-test.true in
    let here : slice_get arrivals count ≡ Some arrival = slice_get_read arrivals (length arrivals) count arrival refl below c.index-arrivals-place.is in
    let number_is : number ≡ card_for c.args.side c.args.cards arrival =
    c.card_of-number.ensures.card ∙ ap (λ v. card_of v c.args.cards) c.vc_at.ensures.connection
    ∙ ap (card_for c.args.side c.args.cards) (sym c.index-arrivals-place.is) in
    record {
      dealt = subst (IsDealt c.args.side c.args.cards arrivals (count + 1))
          (sym (map-set items dealt number c.push.new.self ∙ ap (set (map items dealt) number) c.in_ok-push.ensures.items))
          (deal-next c.args.side c.args.cards arrivals count number arrival (read d).items (map items dealt) c.loop-place.invariant.dealt
          here number_is
          (slice_get-map items dealt number ∙ ap (option_map items) (read_there d)));
      short = short-set count dealt number (read d) c.push.new.self (read_there d)
          (omega (arith, ap length c.in_ok-push.ensures.items, length-append (read d).items (count ∷ []))) c.loop-place.invariant.short;
      sized = length-set dealt number c.push.new.self ∙ c.loop-place.invariant.sized;
      kept = λ most room. room-set most dealt number (read d) c.push.new.self (read_there d) c.push.ensures.capacity
          (c.loop-place.invariant.kept most room);
      numbers = c.push_reserved.ensures.items
          ∙ numbers-next c.args.side c.args.cards arrivals count number arrival c.loop-place.numbers.items c.loop-place.invariant.numbers here number_is;
      many = c.push_reserved.ensures.len ∙ ap (λ (n : ℕ). n + 1) c.loop-place.invariant.many;
      room = omega (arith, c.loop-place.invariant.room, c.push_reserved.ensures.capacity);
      grown = omega (arith, c.loop-place.invariant.grown, c.push_reserved.ensures.capacity);
    }

whole : (c : After-loop-place) → IsDealt c.args.side c.args.cards c.args.arrivals.now (length c.args.arrivals.now) (map items c.loop-place.dealt)
whole c =
    let all : c.loop-place.place ≡ length c.args.arrivals.now =
    let high : c.loop-place.place ≤ length c.args.arrivals.now = c.loop-place.auto.place-end in
    let low : length c.args.arrivals.now ≤ c.loop-place.place = c.loop-place-test.false in omega arith in
    subst (λ (n : ℕ). IsDealt c.args.side c.args.cards c.args.arrivals.now n (map items c.loop-place.dealt)) all c.loop-place.invariant.dealt

here : (c : After-loop-place) (number : ℕ) (places : Vec ℕ Global) → slice_get c.loop-place.dealt number ≡ Some places
    → slice_get (map items c.loop-place.dealt) number ≡ Some places.items
here c number places e = slice_get-map items c.loop-place.dealt number ∙ ap (option_map items) e

pub returns-clause-own : goal.returns-clause-own
returns-clause-own c number places e =
    deal-all c.args.side c.args.cards c.args.arrivals.now (map items c.loop-place.dealt) (whole c) number places.items (here c number places e)

pub returns-clause-within : goal.returns-clause-within
returns-clause-within c number places e = (whole c number places.items (here c number places e)).within
