-- What a card does with the arrivals of its feeder.
use Rattle.std.specs.Prelude.{◌≡◌, List, [], ◌∷◌, ◌++◌, map, Option, Some, None, Result, slice_get}
use Rattle.card_core.specs.Agreement.{CoreView, CoreAgrees, Follows, GoneAll}
use Rattle.card_core.specs.Log.{Event, Leads}
use Rattle.card_core.specs.World.{World, outside}
use Rattle.card_core.specs.declared.answer.Judgement.{Judgement}
use Rattle.card_core.specs.declared.answer.Unjudged.{Unjudged}
use Rattle.card_core.specs.declared.reply.Reply.TheVariants.{NotNow}
use Rattle.card_core.specs.declared.shape.Shape.{Shape}
use Rattle.card_core.specs.declared.step.Step.TheVariants.{Enter}
use Rattle.card_shelf.specs.declared.arrival.Arrival.{Arrival}
use Rattle.card_shelf.specs.Logs.{AreWaysOf}
use Rattle.card_shelf.specs.Own.{ServesAll}
use Rattle.card_shelf.specs.Policing.{ServesArrival}

-- The answer of `Core::arrive` to an arrival at port 0: the card serves the arrival. Or there is none, since port 0
-- has a cell already or the card has no such port, and the card is as before.
abbrev pub IsAnswerAt0 : Arrival → Option (Result Judgement Unjudged) → CoreView → CoreView → Type 0
IsAnswerAt0 arrival (Some decision) old new = ServesArrival arrival decision old new
IsAnswerAt0 arrival None old new = Follows old (Enter 0 arrival.cell arrival.moment) NotNow new × (new ≡ old)

-- The card gives these answers to these arrivals, one after another.
abbrev pub AnswersInOrder : CoreView → List Arrival → List (Option (Result Judgement Unjudged)) → CoreView → Type 0
AnswersInOrder old [] [] new = new ≡ old
AnswersInOrder old [] (answer ∷ more) new = ⊥
AnswersInOrder old (arrival ∷ later) [] new = ⊥
AnswersInOrder old (arrival ∷ later) (answer ∷ more) new =
    (between : CoreView) × IsAnswerAt0 arrival answer old between × AnswersInOrder between later more new

-- Each arrival has an answer, and the card has served all of them. The log with their steps added leads to a world that
-- the card agrees with now, and there port 0 has no cell.
pub record HasServed (shape : Shape) (log : List Event) (before : World) (arrivals : List Arrival)
    (answers : List (Option (Result Judgement Unjudged))) (old new : CoreView) : Type 0 where
  pub decisions : List (Result Judgement Unjudged)
  pub all : answers ≡ map Some decisions
  pub serves : ServesAll old arrivals decisions new
  pub events : List Event
  pub ways : AreWaysOf arrivals decisions events
  pub gone : GoneAll shape log before events new
  pub free : slice_get gone.after.ports 0 ≡ Some outside

-- For every log and every world that it leads to and the old card agrees with, if port 0 has no cell there, the card has
-- served these arrivals with these answers.
abbrev pub ServesIfFree : CoreView → List Arrival → List (Option (Result Judgement Unjudged)) → CoreView → Type 0
ServesIfFree old arrivals answers new = (shape : Shape) (log : List Event) (before : World)
    → Leads shape log before → CoreAgrees old before → slice_get before.ports 0 ≡ Some outside
    → HasServed shape log before arrivals answers old new

-- The card has answered all arrivals of its feeder, in their order. The feeder has taken exactly these answers, after those
-- that it had taken before, and no arrival is left.
pub record IsFed (old : CoreView) (arrivals : List Arrival) (had : List (Option (Result Judgement Unjudged)) → Type 0)
    (new : CoreView) (left : List Arrival) (has : List (Option (Result Judgement Unjudged)) → Type 0) : Type 0 where
  pub answers : List (Option (Result Judgement Unjudged))
  pub answered : AnswersInOrder old arrivals answers new
  pub served : ServesIfFree old arrivals answers new
  pub taken : (earlier : List (Option (Result Judgement Unjudged))) → had earlier → has (earlier ++ answers)
  pub ended : left ≡ []
