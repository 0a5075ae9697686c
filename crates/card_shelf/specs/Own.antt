-- What one card does with a list of arrivals.
use Rattle.std.specs.Prelude.{◌≡◌, ◌==◌, ℕ, if◌then◌else◌, List, [], ◌∷◌, length, Some, Result, slice_get}
use Rattle.upc_cell.specs.declared.side.Side.{Side}
use Rattle.card_core.specs.Agreement.{CoreView}
use Rattle.card_core.specs.declared.answer.Judgement.{Judgement}
use Rattle.card_core.specs.declared.answer.Unjudged.{Unjudged}
use Rattle.card_shelf.specs.declared.arrival.Arrival.{Arrival}
use Rattle.card_shelf.specs.Dealing.{card_for}
use Rattle.card_shelf.specs.Policing.{ServesArrival, PolicesAll}

-- The arrivals of the card of this number, among this number of cards.
abbrev pub own_arrivals : Side → ℕ → ℕ → List Arrival → List Arrival
own_arrivals side cards number [] = []
own_arrivals side cards number (arrival ∷ later) =
    if card_for side cards arrival == number
    then arrival ∷ own_arrivals side cards number later
    else own_arrivals side cards number later

-- The answers of the card of this number, among the answers to all.
abbrev pub own_decisions : Side → ℕ → ℕ → List Arrival → List (Result Judgement Unjudged) → List (Result Judgement Unjudged)
own_decisions side cards number [] decisions = []
own_decisions side cards number (arrival ∷ later) [] = []
own_decisions side cards number (arrival ∷ later) (decision ∷ more) =
    if card_for side cards arrival == number
    then decision ∷ own_decisions side cards number later more
    else own_decisions side cards number later more

-- One card answers these arrivals, one after another.
abbrev pub ServesAll : CoreView → List Arrival → List (Result Judgement Unjudged) → CoreView → Type 0
ServesAll old [] [] new = new ≡ old
ServesAll old [] (decision ∷ more) new = ⊥
ServesAll old (arrival ∷ later) [] new = ⊥
ServesAll old (arrival ∷ later) (decision ∷ more) new =
    (between : CoreView) × ServesArrival arrival decision old between × ServesAll between later more new

-- Each card answers its own of these arrivals, one after another, and these are the answers to all.
abbrev pub EachServes : Side → List CoreView → List Arrival → List (Result Judgement Unjudged) → List CoreView → Type 0
EachServes side old arrivals decisions new = (number : ℕ) (card next : CoreView)
    → slice_get old number ≡ Some card → slice_get new number ≡ Some next
    → ServesAll card (own_arrivals side (length old) number arrivals) (own_decisions side (length old) number arrivals decisions) next

-- The cards police a batch of arrivals with these answers, one for each: one arrival after another, each on its card. So each
-- card answers its own arrivals, whatever the others do.
pub record PolicesBatch (side : Side) (old : List CoreView) (arrivals : List Arrival)
    (decisions : List (Result Judgement Unjudged)) (new : List CoreView) : Type 0 where
  pub policed : PolicesAll side old arrivals decisions new
  pub each : EachServes side old arrivals decisions new
  pub one_each : length decisions ≡ length arrivals
