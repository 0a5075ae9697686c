-- What policing adds to the log of a card, so that what holds of logs holds of a shelf's cards.
use Rattle.std.specs.Prelude.{◌≡◌, ◌≤◌, ◌*◌, ◌⊎◌, List, [], ◌∷◌, ◌++◌, length, Result}
use Rattle.card_core.specs.Agreement.{CoreView, CoreAgrees, GoneAll, events_of}
use Rattle.card_core.specs.Log.{Event, Leads}
use Rattle.card_core.specs.Sections.{answer_to}
use Rattle.card_core.specs.World.{World}
use Rattle.card_core.specs.declared.answer.Answer.{Answer}
use Rattle.card_core.specs.declared.answer.Judgement.{Judgement}
use Rattle.card_core.specs.declared.answer.Unjudged.{Unjudged}
use Rattle.card_core.specs.declared.reply.Reply.TheVariants.{Entered, Picked, Answered}
use Rattle.card_core.specs.declared.shape.Shape.{Shape}
use Rattle.card_core.specs.declared.step.Step.TheVariants.{Enter, Pick, Judge}
use Rattle.card_shelf.specs.declared.arrival.Arrival.{Arrival}
use Rattle.card_shelf.specs.Own.{ServesAll}

-- These are the steps of the arrival at port 0 with their replies: Enter and Pick if the connection isn't found, else
-- Enter, Pick and Judge. The last reply is this answer.
abbrev pub IsWayOf : Arrival → Answer → List Event → Type 0
IsWayOf arrival answer events =
    (events ≡ events_of (Enter 0 arrival.cell arrival.moment ∷ Pick 0 ∷ []) (Entered ∷ Answered answer ∷ []))
    ⊎ (events ≡ events_of (Enter 0 arrival.cell arrival.moment ∷ Pick 0 ∷ Judge 0 ∷ []) (Entered ∷ Picked ∷ Answered answer ∷ []))

-- These are the steps of the arrivals, one arrival after another, with these answers.
abbrev pub AreWaysOf : List Arrival → List (Result Judgement Unjudged) → List Event → Type 0
AreWaysOf [] [] events = events ≡ []
AreWaysOf [] (decision ∷ more) events = ⊥
AreWaysOf (arrival ∷ later) [] events = ⊥
AreWaysOf (arrival ∷ later) (decision ∷ more) events =
    (first : List Event) × (rest : List Event) × IsWayOf arrival (answer_to arrival.cell decision) first
    × AreWaysOf later more rest × (events ≡ first ++ rest)

-- The steps of arrivals are at most three for each.
abbrev pub WaysAreShort : Type 0
WaysAreShort = (arrivals : List Arrival) (decisions : List (Result Judgement Unjudged)) (events : List Event)
    → AreWaysOf arrivals decisions events → length events ≤ 3 * length arrivals

-- The log goes on by the steps of these arrivals, with these answers.
pub record GoesOnBy (old : List Event) (arrivals : List Arrival) (decisions : List (Result Judgement Unjudged)) (new : List Event) : Type 0 where
  pub way : List Event
  pub steps : AreWaysOf arrivals decisions way
  pub log : new ≡ old ++ way

-- A card that has answered arrivals has taken their steps. If it agreed with a world to which a log leads, the log with
-- these steps added leads to a world that the card agrees with now.
abbrev pub CardsGoOnByTheirArrivals : Type 0
CardsGoOnByTheirArrivals = (old new : CoreView) (arrivals : List Arrival) (decisions : List (Result Judgement Unjudged))
    → ServesAll old arrivals decisions new → (shape : Shape) (log : List Event) (before : World)
    → Leads shape log before → CoreAgrees old before
    → (events : List Event) × AreWaysOf arrivals decisions events × GoneAll shape log before events new
