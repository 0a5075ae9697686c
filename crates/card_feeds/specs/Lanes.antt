-- Lanes beside one card that has the connections of all their cards.
use Rattle.std.specs.Prelude.{◌≡◌, ◌<◌, ℕ, List, ◌++◌, length, map, Option, Some, Result, slice_get}
use Rattle.card_core.specs.Agreement.{CoreView, CoreAgrees}
use Rattle.card_core.specs.Log.{Event, Leads}
use Rattle.card_core.specs.World.{World, outside}
use Rattle.card_core.specs.declared.answer.Judgement.{Judgement}
use Rattle.card_core.specs.declared.answer.Unjudged.{Unjudged}
use Rattle.card_core.specs.declared.shape.Shape.{Shape}
use Rattle.card_shelf.specs.declared.arrival.Arrival.{Arrival}
use Rattle.card_feeds.specs.Mixing.{AreOnTheirCards, IsMixOf, MixIsAnswered}
use Rattle.card_feeds.specs.declared.lane.Lane.{Lane}

-- The cards of these lanes.
abbrev pub lane_cards : {F : Type 0} → List (Lane F) → List CoreView
lane_cards lanes = map (λ lane. lane.core) lanes

-- The arrivals that are to come to each of these lanes.
abbrev pub lane_queues : {F : Type 0} → (F → List Arrival) → List (Lane F) → List (List Arrival)
lane_queues coming lanes = map (λ lane. coming lane.feeder) lanes

-- Each card agrees with some world to which a log leads, and there port 0 has no cell.
abbrev pub HaveFreePorts : List CoreView → Type 0
HaveFreePorts cards = (number : ℕ) (card : CoreView) → slice_get cards number ≡ Some card
    → (shape : Shape) × (log : List Event) × (world : World)
    × Leads shape log world × CoreAgrees card world × (slice_get world.ports 0 ≡ Some outside)

-- The feeder of the lane of this number has taken exactly these answers, after those that it had taken before.
abbrev pub HasTakenMore : {F : Type 0} → (F → List (Option (Result Judgement Unjudged)) → Type 0) → List (Lane F) → List (Lane F)
    → ℕ → List (Option (Result Judgement Unjudged)) → Type 0
HasTakenMore {F} has_taken old new number answers = (lane next : Lane F) (earlier : List (Option (Result Judgement Unjudged)))
    → slice_get old number ≡ Some lane → slice_get new number ≡ Some next
    → has_taken lane.feeder earlier → has_taken next.feeder (earlier ++ answers)

-- These are lists of answers, one for each card. The feeders have taken them, and they answer this mix of the queues.
pub record MixIsTaken (shape : Shape) (old : List CoreView)
    (taken : ℕ → List (Option (Result Judgement Unjudged)) → Type 0) (new : List CoreView) (mix : List Arrival) : Type 0 where
  pub answers : List (List (Result Judgement Unjudged))
  pub one_each : length answers ≡ length old
  pub each_taken : (number : ℕ) (own : List (Result Judgement Unjudged)) → slice_get answers number ≡ Some own
      → taken number (map Some own)
  pub answered : MixIsAnswered shape old answers new mix

-- If no card has a cell at its port 0 and each connection is on one card, the answers that the feeders have taken are
-- those of one card that takes all arrivals, in every mix of the queues.
abbrev pub FeedAsOneCard : List CoreView → List (List Arrival) → (ℕ → List (Option (Result Judgement Unjudged)) → Type 0)
    → List CoreView → Type 0
FeedAsOneCard old queues taken new = (shape : Shape) → 0 < length old → HaveFreePorts old
    → AreOnTheirCards shape.side (length old) queues → (mix : List Arrival) → IsMixOf queues mix
    → MixIsTaken shape old taken new mix
