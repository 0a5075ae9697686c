-- How a list of arrivals is policed: one after another, each by its card.
use Rattle.std.specs.Prelude.{◌≡◌, List, [], ◌∷◌, length, Result, OnErr}
use Rattle.upc_cell.specs.declared.side.Side.{Side}
use Rattle.card_core.specs.Agreement.{CoreView}
use Rattle.card_core.specs.Arrival.{AnswersArrival}
use Rattle.card_core.specs.Sections.{answer_to}
use Rattle.card_core.specs.declared.answer.Judgement.{Judgement}
use Rattle.card_core.specs.declared.answer.Unjudged.{Unjudged}
use Rattle.card_shelf.specs.declared.arrival.Arrival.{Arrival}
use Rattle.card_shelf.specs.Dealing.{card_for}
use Rattle.card_shelf.specs.Shelf.{ChangesCard}

-- A card answers the arrival at its port 0: the cell goes its whole way there. If the cell isn't judged, the card is as it
-- was before.
pub record ServesArrival (arrival : Arrival) (decision : Result Judgement Unjudged) (old new : CoreView) : Type 0 where
  pub answers : AnswersArrival old 0 arrival.cell arrival.moment (answer_to arrival.cell decision) new
  pub refused : OnErr decision (new ≡ old)

-- The card of the arrival's connection answers it, and every other card is as before.
abbrev pub Polices : Side → List CoreView → Arrival → Result Judgement Unjudged → List CoreView → Type 0
Polices side old arrival decision new = ChangesCard old (card_for side (length old) arrival) (ServesArrival arrival decision) new

-- The arrivals are policed one after another, in their order, with these answers.
abbrev pub PolicesAll : Side → List CoreView → List Arrival → List (Result Judgement Unjudged) → List CoreView → Type 0
PolicesAll side old [] [] new = new ≡ old
PolicesAll side old [] (decision ∷ more) new = ⊥
PolicesAll side old (arrival ∷ later) [] new = ⊥
PolicesAll side old (arrival ∷ later) (decision ∷ more) new =
    (between : List CoreView) × Polices side old arrival decision between × PolicesAll side between later more new
