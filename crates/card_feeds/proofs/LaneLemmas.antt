-- Lanes that have been fed, beside one card.
use Rattle.std.proofs.Common.{◌≡◌, ℕ, ◌<◌, List, ◌++◌, length, map, Option, Some, sym, ap, ◌∙◌, subst, arith}
use Rattle.std.specs.Prelude.{slice_get, option_map}
use Rattle.std.proofs.lemmas.List.{length-map}
use Rattle.std.proofs.lemmas.Option.{same_Some, slice_get-map}
use Rattle.card_core.specs.Agreement.{CoreView}
use Rattle.card_shelf.specs.declared.arrival.Arrival.{Arrival}
use Rattle.card_shelf.specs.Own.{ServesAll}
use Rattle.card_shelf.proofs.Lists.{there, chosen}
use Rattle.card_shelf.proofs.OwnLemmas.{Decision}
use Rattle.card_feeds.specs.Feeding.{IsFed}
use Rattle.card_feeds.specs.Lanes.{lane_cards, lane_queues, HaveFreePorts, HasTakenMore, FeedAsOneCard}
use Rattle.card_feeds.specs.Mixing.{HaveServedQueues}
use Rattle.card_feeds.specs.declared.lane.Lane.{Lane}
use Rattle.card_feeds.proofs.MixLemmas.{mix-answered}

mapped-at : {X Y : Type 0} (f : X → Y) (xs : List X) (k : ℕ) (x : X) → slice_get xs k ≡ Some x → slice_get (map f xs) k ≡ Some (f x)
mapped-at f xs k x e = slice_get-map f xs k ∙ ap (option_map f) e

module _ {F : Type 0} (coming : F → List Arrival) (has_taken : F → List (Option Decision) → Type 0) (old new : List (Lane F))
    (sized : length new ≡ length old)
    (fed : (number : ℕ) (lane next : Lane F) → slice_get old number ≡ Some lane → slice_get new number ≡ Some next
    → IsFed lane.core (coming lane.feeder) (has_taken lane.feeder) next.core (coming next.feeder) (has_taken next.feeder)) where
  -- The lane of this number has taken these answers, with which its card has served its queue.
  record Taken (number : ℕ) (decisions : List Decision) : Type 0 where
    more : HasTakenMore has_taken old new number (map Some decisions)
    lane : Lane F
    next : Lane F
    here : slice_get old number ≡ Some lane
    after : slice_get new number ≡ Some next
    serves : ServesAll lane.core (coming lane.feeder) decisions next.core

  taken : HaveFreePorts (lane_cards old) → (number : ℕ) → number < length old → (decisions : List Decision) × Taken number decisions
  taken free number below =
      let lane = there old number below in
      let next = there new number (omega (arith, below, sized)) in
      let was = fed number lane.0 next.0 lane.1 next.1 in
      let rest = free number lane.0.core (mapped-at (λ (l : Lane F). l.core) old number lane.0 lane.1) in
      let served = was.served rest.0 rest.1 rest.2 rest.3 rest.4 rest.5 in (
        served.decisions,
        record {
          more = λ before then earlier at at_new had.
              let same : lane.0 ≡ before = same_Some lane.0 before (sym lane.1 ∙ at) in
              let same_new : next.0 ≡ then = same_Some next.0 then (sym next.1 ∙ at_new) in
              subst (λ (l : Lane F). has_taken l.feeder (earlier ++ map Some served.decisions)) same_new
              (subst (λ (answers : List (Option Decision)). has_taken next.0.feeder (earlier ++ answers)) served.all
              (was.taken earlier (subst (λ (l : Lane F). has_taken l.feeder earlier) (sym same) had)));
          lane = lane.0;
          next = next.0;
          here = lane.1;
          after = next.1;
          serves = served.serves;
        },
      )

  -- What the lane of this number has is the card and the queue at this number.
  serves-at : (number : ℕ) (card next : CoreView) (queue : List Arrival) (decisions : List Decision) → Taken number decisions
      → slice_get (lane_cards old) number ≡ Some card → slice_get (lane_cards new) number ≡ Some next
      → slice_get (lane_queues coming old) number ≡ Some queue → ServesAll card queue decisions next
  serves-at number card next queue decisions was here after at =
      let card_is = same_Some was.lane.core card (sym (mapped-at (λ (l : Lane F). l.core) old number was.lane was.here) ∙ here) in
      let next_is = same_Some was.next.core next (sym (mapped-at (λ (l : Lane F). l.core) new number was.next was.after) ∙ after) in
      let queue_is = same_Some (coming was.lane.feeder) queue
      (sym (mapped-at (λ (l : Lane F). coming l.feeder) old number was.lane was.here) ∙ at) in
      subst (λ (c : CoreView). ServesAll c queue decisions next) card_is
      (subst (λ (c : CoreView). ServesAll was.lane.core queue decisions c) next_is
      (subst (λ (xs : List Arrival). ServesAll was.lane.core xs decisions was.next.core) queue_is was.serves))

  pub feed-as-one : FeedAsOneCard (lane_cards old) (lane_queues coming old) (HasTakenMore has_taken old new) (lane_cards new)
  feed-as-one shape some free homes mix mixed =
      let cards : length (lane_cards old) ≡ length old = length-map old (λ (l : Lane F). l.core) in
      let all = chosen (length old) Taken (taken free) in
      let have : HaveServedQueues shape.side (lane_cards old) (lane_queues coming old) all.0 (lane_cards new) = record {
        some = some;
        cards = length-map new (λ (l : Lane F). l.core) ∙ sized ∙ sym cards;
        queues_each = length-map old (λ (l : Lane F). coming l.feeder) ∙ sym cards;
        answers_each = all.1 ∙ sym cards;
        homes = homes;
        served = λ number card next queue decisions here after at is.
            serves-at number card next queue decisions (all.2 number decisions is) here after at;
      } in
      record {
        answers = all.0;
        one_each = all.1 ∙ sym cards;
        each_taken = λ number own at. (all.2 number own at).more;
        answered = mix-answered shape (lane_cards old) (lane_cards new) (lane_queues coming old) all.0 have mix mixed;
      }
