-- The arrivals of several feeders, taken by one card.
use Rattle.std.specs.Prelude.{◌≡◌, ◌<◌, ℕ, List, [], ◌∷◌, length, Some, Result, slice_get, slice_set}
use Rattle.upc_cell.specs.declared.side.Side.{Side}
use Rattle.card_core.specs.Agreement.{CoreView}
use Rattle.card_core.specs.declared.answer.Judgement.{Judgement}
use Rattle.card_core.specs.declared.answer.Unjudged.{Unjudged}
use Rattle.card_core.specs.declared.shape.Shape.{Shape}
use Rattle.card_shelf.specs.declared.arrival.Arrival.{Arrival}
use Rattle.card_shelf.specs.Dealing.{card_for}
use Rattle.card_shelf.specs.OneCard.{DecidesAsOneCard}
use Rattle.card_shelf.specs.Own.{ServesAll, own_decisions}
use Rattle.card_shelf.specs.Policing.{PolicesAll}

-- The list has all arrivals of these queues and no others, and those of each queue in their order. It begins with the
-- first of some queue, and goes on so with what is left of the queues.
abbrev pub IsMixOf : List (List Arrival) → List Arrival → Type 0
IsMixOf queues [] = (number : ℕ) (queue : List Arrival) → slice_get queues number ≡ Some queue → queue ≡ []
IsMixOf queues (arrival ∷ later) = (number : ℕ) × (rest : List Arrival)
    × (slice_get queues number ≡ Some (arrival ∷ rest)) × IsMixOf (slice_set queues number rest) later

-- Each connection is on one card: the number of an arrival's card is that of its queue.
abbrev pub AreOnTheirCards : Side → ℕ → List (List Arrival) → Type 0
AreOnTheirCards side cards queues = (number : ℕ) (queue : List Arrival) (place : ℕ) (arrival : Arrival)
    → slice_get queues number ≡ Some queue → slice_get queue place ≡ Some arrival → card_for side cards arrival ≡ number

-- There are some cards, with a queue and a list of answers for each. Every connection is on one card, and each card has
-- served its own queue with its own answers.
pub record HaveServedQueues (side : Side) (old : List CoreView) (queues : List (List Arrival))
    (answers : List (List (Result Judgement Unjudged))) (new : List CoreView) : Type 0 where
  pub some : 0 < length old
  pub cards : length new ≡ length old
  pub queues_each : length queues ≡ length old
  pub answers_each : length answers ≡ length old
  pub homes : AreOnTheirCards side (length old) queues
  pub served : (number : ℕ) (card next : CoreView) (queue : List Arrival) (decisions : List (Result Judgement Unjudged))
      → slice_get old number ≡ Some card → slice_get new number ≡ Some next
      → slice_get queues number ≡ Some queue → slice_get answers number ≡ Some decisions
      → ServesAll card queue decisions next

-- There is an answer to each arrival of the mix, and those of each card are its own answers. The cards answer the mix so,
-- one arrival after another, and the answers are those of one card with all their connections.
pub record MixIsAnswered (shape : Shape) (old : List CoreView) (answers : List (List (Result Judgement Unjudged)))
    (new : List CoreView) (mix : List Arrival) : Type 0 where
  pub decisions : List (Result Judgement Unjudged)
  pub one_each : length decisions ≡ length mix
  pub own : (number : ℕ) (own : List (Result Judgement Unjudged)) → slice_get answers number ≡ Some own
      → own_decisions shape.side (length old) number mix decisions ≡ own
  pub policed : PolicesAll shape.side old mix decisions new
  pub as_one : DecidesAsOneCard shape old mix decisions new

-- If each card has served its own queue, the answers are those of one card that takes all arrivals, in every mix of the
-- queues.
abbrev pub FedCardsAnswerAsOneCard : Type 0
FedCardsAnswerAsOneCard = (shape : Shape) (old new : List CoreView) (queues : List (List Arrival))
    (answers : List (List (Result Judgement Unjudged))) → HaveServedQueues shape.side old queues answers new
    → (mix : List Arrival) → IsMixOf queues mix → MixIsAnswered shape old answers new mix
