use Rattle.std.proofs.Common.{◌≡◌, ◌+◌, ◌<◌, ◌≤◌, ℕ, Some, List, [], ◌∷◌, length, length-set, take, get_or, vec_len, refl, sym, ap, ◌∙◌, subst, arith, mod-lt}
use Rattle.std.specs.Prelude.{slice_get, option_map}
use Rattle.std.proofs.lemmas.List.{length-append, length-map, length-take-le}
use Rattle.std.proofs.lemmas.Option.{slice_get-map, slice_get_read, slice_get-get_or}
use Rattle.card_shelf.specs.declared.arrival.Arrival.{Arrival}
use Rattle.card_shelf.specs.declared.card.Card.{Card}
use Rattle.card_shelf.specs.Dealing.{card_for}
use Rattle.card_shelf.specs.Own.{own_arrivals}
use Rattle.card_shelf.specs.inner.Cards.{decisions_of}
use Rattle.card_shelf.specs.inner.Gathered.{IsGathered}
use Rattle.card_shelf.proofs.GatherLemmas.{counts-next, place-decisions, gather-next, gather-all, numbered, numbered-within}
use Rattle.card_shelf.proofs.Lists.{get-replicate}
use Rattle.card_shelf.proofs.OwnLemmas.{Decision}
use Rattle.card_shelf.proofs.gathering.gather.Goals as goal
use Rattle.card_shelf.proofs.gathering.gather.Goals.{After-from-card, After-index-cards-card}

-- The arrival whose number is read.
found : (c : After-index-cards-card) → (arrival : Arrival) × (slice_get c.args.arrivals.now c.loop-number.number-index ≡ Some arrival)
    × (card_for c.args.side (length c.args.cards.now) arrival ≡ c.from-card.result)
found c =
    numbered c.args.side (length c.args.cards.now) c.args.arrivals.now c.args.numbers.now c.loop-number.number-index c.from-card.result
    c.requires.numbers c.loop-number-test.true c.from-card.ensures

card_within : (c : After-from-card) → c.from-card.result < length c.args.cards.now
card_within c =
    numbered-within c.args.side (length c.args.cards.now) c.args.arrivals.now c.args.numbers.now c.loop-number.number-index c.from-card.result
    c.requires.numbers c.loop-number-test.true c.from-card.ensures c.requires.some

within : (c : After-index-cards-card) → c.from-card.result < length c.args.cards.now
within c = subst (λ (n : ℕ). n < length c.args.cards.now) (found c).2 (mod-lt _ c.requires.some)

card_there : (c : After-index-cards-card) → slice_get c.args.cards.now c.from-card.result ≡ Some c.index-cards-card.result
card_there c =
    slice_get_read c.args.cards.now (length c.args.cards.now) c.from-card.result c.index-cards-card.result refl
    (within c) c.index-cards-card.is

decisions_there : (c : After-index-cards-card) → slice_get (decisions_of c.args.cards.now) c.from-card.result ≡ Some c.index-cards-card.result.decisions.items
decisions_there c =
    let decision_lists : Card → List Decision = λ card. card.decisions.items in
    slice_get-map decision_lists c.args.cards.now c.from-card.result ∙ ap (option_map decision_lists) (card_there c)

abbrev next_of : After-index-cards-card → ℕ
next_of c = get_or c.loop-number.next c.from-card.result 0

count_there : (c : After-index-cards-card) → slice_get c.loop-number.next c.from-card.result ≡ Some (next_of c)
count_there c =
    slice_get-get_or c.loop-number.next c.from-card.result 0
    (omega (arith, within c, c.requires.limit, c.loop-number.invariant.sized))

place : (c : After-index-cards-card)
    → (next_of c ≡ length (own_arrivals c.args.side (length c.args.cards.now) c.from-card.result (take c.loop-number.number-index c.args.arrivals.now)))
    × (next_of c < length c.index-cards-card.result.decisions.items)
place c =
    let it = found c in
    place-decisions c.args.side (length c.args.cards.now) c.args.arrivals.now c.loop-number.number-index c.from-card.result (next_of c)
    it.0 c.loop-number.next (decisions_of c.args.cards.now) c.index-cards-card.result.decisions.items
    c.loop-number.invariant.counts c.requires.each it.1 (sym it.2) (count_there c) (decisions_there c)

pub loop-number-init : goal.loop-number-init
loop-number-init c =
    record {
      counts = λ number count e. get-replicate 64 number 0 count e;
      sized = refl;
      gathered = λ number ts e. refl;
      decisions = ap length c.requires.empty;
      room = c.requires.room;
      capacity = refl;
    }

pub bounds-next-card : goal.bounds-next-card
bounds-next-card c = omega (arith, card_within c, c.requires.limit)

pub bounds-cards-card : goal.bounds-cards-card
bounds-cards-card c = card_within (goal.at.bounds-cards-card c).After-from-card

pub index-requires : goal.index-requires
index-requires c =
    let below = (place c).1 in
    let P : Card → Type 0 = λ card. next_of c < vec_len card.decisions in
    subst P c.index-cards-card.is (omega (arith, below, c.index-cards-card.result.decisions.ok.0))

pub overflow_add-next : goal.overflow_add-next
overflow_add-next c =
    let below = (place (goal.at.overflow_add-next c).After-index-cards-card).1 in
    omega (arith, below, c.index-cards-card.result.decisions.ok.0, c.index-cards-card.result.decisions.small)

pub bounds-next-card-in-loop-number : goal.bounds-next-card-in-loop-number
bounds-next-card-in-loop-number c =
    omega (arith, card_within (goal.at.bounds-next-card-in-loop-number c).After-from-card, c.requires.limit)

pub loop-number-preserved : goal.loop-number-preserved
loop-number-preserved c =
    let d = (goal.at.loop-number-preserved c).After-index-cards-card in
    let it = found d in
    let cards = length c.args.cards.now in
    let arrivals = c.args.arrivals.now in
    let count = c.loop-number.number-index in
    let number = c.from-card.result in
    let from = c.index-cards-card.result.decisions.items in
    let next = c.index.result.now in
    let at = place d in
    let many : length c.args.numbers.now ≡ length arrivals = ap length c.requires.numbers ∙ length-map arrivals (card_for c.args.side cards) in
    let front : length (take count arrivals) ≡ count = length-take-le count arrivals (omega (arith, c.loop-number.auto.number-index-end, many)) in
    let read : slice_get from (next_of d) ≡ Some next =
    slice_get_read from (length from) (next_of d) next refl at.1
    (c.index.ensures ∙ ap (λ (card : Card). get_or card.decisions.items (next_of d) next) (sym c.index-cards-card.is)) in
    record {
      counts = counts-next c.args.side cards arrivals count number it.0 c.loop-number.next
          (next_of d) c.loop-number.invariant.counts it.1 (sym it.2) (count_there d);
      sized = length-set c.loop-number.next number (next_of d + 1) ∙ c.loop-number.invariant.sized;
      gathered = subst (λ (ts : List Decision). IsGathered c.args.side cards (take (count + 1) arrivals) (decisions_of c.args.cards.now) ts)
          (sym c.push_reserved.ensures.items)
          (gather-next c.args.side cards arrivals count number it.0 (decisions_of c.args.cards.now)
          c.loop-number.decisions.items from next c.loop-number.invariant.gathered (c.loop-number.invariant.decisions ∙ sym front)
          it.1 (sym it.2) (decisions_there d) (ap (slice_get from) (sym at.0) ∙ read));
      decisions = ap length c.push_reserved.ensures.items ∙ length-append c.loop-number.decisions.items (next ∷ []) ∙ ap (λ (n : ℕ). n + 1) c.loop-number.invariant.decisions;
      room = omega (arith, c.push_reserved.ensures.capacity, c.loop-number.invariant.room);
      capacity = c.push_reserved.ensures.capacity ∙ c.loop-number.invariant.capacity;
    }

pub returns-clause-own : goal.returns-clause-own
returns-clause-own c =
    let arrivals = c.args.arrivals.now in
    let many : length c.args.numbers.now ≡ length arrivals =
    ap length c.requires.numbers ∙ length-map arrivals (card_for c.args.side (length c.args.cards.now)) in
    let all : c.loop-number.number-index ≡ length arrivals =
    let high : c.loop-number.number-index ≤ length c.args.numbers.now = c.loop-number.auto.number-index-end in
    let low : length c.args.numbers.now ≤ c.loop-number.number-index = c.loop-number-test.false in omega (arith, many) in
    gather-all c.args.side (length c.args.cards.now) arrivals (decisions_of c.args.cards.now) c.loop-number.decisions.items c.requires.each
    (subst (λ (n : ℕ). IsGathered c.args.side (length c.args.cards.now) (take n arrivals) (decisions_of c.args.cards.now) c.loop-number.decisions.items) all
    c.loop-number.invariant.gathered)
