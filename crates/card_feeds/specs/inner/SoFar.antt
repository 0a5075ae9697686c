-- A lane between two arrivals.
use Rattle.std.specs.Prelude.{◌≡◌, List, ◌++◌, Option, Result}
use Rattle.card_core.specs.Agreement.{CoreView}
use Rattle.card_core.specs.declared.answer.Judgement.{Judgement}
use Rattle.card_core.specs.declared.answer.Unjudged.{Unjudged}
use Rattle.card_shelf.specs.declared.arrival.Arrival.{Arrival}
use Rattle.card_feeds.specs.Feeding.{AnswersInOrder}

-- The card has answered the first of the arrivals, the feeder has taken the answers, and these arrivals are left.
pub record FedSoFar (old : CoreView) (arrivals : List Arrival) (had : List (Option (Result Judgement Unjudged)) → Type 0)
    (new : CoreView) (left : List Arrival) (has : List (Option (Result Judgement Unjudged)) → Type 0) : Type 0 where
  pub given : List Arrival
  pub answers : List (Option (Result Judgement Unjudged))
  pub answered : AnswersInOrder old given answers new
  pub parted : arrivals ≡ given ++ left
  pub taken : (earlier : List (Option (Result Judgement Unjudged))) → had earlier → has (earlier ++ answers)
