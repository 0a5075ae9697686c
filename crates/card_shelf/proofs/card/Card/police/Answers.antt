use Rattle.std.proofs.Common.{◌≡◌, ◌+◌, ◌<◌, Some, List, [], ◌∷◌, ◌++◌, length, get_or, take, refl, sym, ap, ◌∙◌, subst, arith}
use Rattle.std.specs.Prelude.{slice_get}
use Rattle.std.proofs.lemmas.Option.{slice_get_read, slice_get-get_or}
use Rattle.card_core.specs.Sections.{answer_to}
use Rattle.card_shelf.specs.declared.arrival.Arrival.{Arrival}
use Rattle.card_shelf.specs.Own.{ServesAll}
use Rattle.card_shelf.specs.inner.Places.{picked}
use Rattle.card_shelf.proofs.Lists.{take-next}
use Rattle.card_shelf.proofs.OwnLemmas.{Decision, serves-next, picked-next}
use Rattle.card_shelf.proofs.RestLemmas.{serving-rests}
use Rattle.card_shelf.proofs.card.Card.police.Goals as goal

pub loop-place-preserved : goal.loop-place-preserved
loop-place-preserved g c =
    let arrivals = c.args.arrivals.now in
    let places = c.args.places.now in
    let k = c.loop-place.place-index in
    let arrival = c.index-arrivals-place.result in
    let below : k < length places = c.loop-place-test.true in
    let place = get_or places k 0 in
    let within : place < length arrivals = c.requires.within k 0 below in
    let here : slice_get arrivals place ≡ Some arrival = slice_get_read arrivals (length arrivals) place arrival refl within c.index-arrivals-place.is in
    let next : take (k + 1) places ≡ take k places ++ place ∷ [] = take-next places k place (slice_get-get_or places k 0 below) in
    let grown : picked arrivals (take (k + 1) places) ≡ picked arrivals (take k places) ++ arrival ∷ [] =
    ap (picked arrivals) next ∙ picked-next arrivals (take k places) place arrival here in
    let first = c.args.self.now.core in
    let core = c.arrive.new.self in
    record {
      served = subst (λ (ts : List Decision). ServesAll first (picked arrivals (take (k + 1) places)) ts core) (sym c.push_reserved.ensures.items)
          (subst (λ (xs : List Arrival). ServesAll first xs (c.loop-place.self.decisions.items ++ c.in-Some.decision ∷ []) core) (sym grown)
          (serves-next first c.loop-place.self.core core (picked arrivals (take k places)) c.loop-place.self.decisions.items arrival c.in-Some.decision
          c.loop-place.invariant.served (record { answers = c.in-Some.ensures.answered; refused = c.in-Some.ensures.refused })));
      rest = serving-rests c.loop-place.self.core core arrival.cell arrival.moment (answer_to arrival.cell c.in-Some.decision)
          c.loop-place.invariant.rest c.in-Some.ensures.answered;
      decisions = omega (arith, c.push_reserved.ensures.len, c.loop-place.invariant.decisions);
      room = omega (arith, c.push_reserved.ensures.capacity, c.loop-place.invariant.room);
      capacity = c.push_reserved.ensures.capacity ∙ c.loop-place.invariant.capacity;
    }
