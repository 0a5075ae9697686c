-- A queue of arrivals in memory.
use Rattle.std.specs.Prelude.{ℕ, List, Option, Result}
use Rattle.card_core.specs.declared.answer.Judgement.{Judgement}
use Rattle.card_core.specs.declared.answer.Unjudged.{Unjudged}
use Rattle.card_shelf.specs.declared.arrival.Arrival.{Arrival}

-- What contracts see of a queue: all its arrivals, how many of them it has given, and the answers that it has taken.
pub record QueueView : Type 0 where
  pub arrivals : List Arrival
  pub given : ℕ
  pub answers : List (Option (Result Judgement Unjudged))
