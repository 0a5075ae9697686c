-- The answers of the cards, gathered.
use Rattle.std.specs.Prelude.{◌≡◌, ℕ, List, length, take, Some, Result, slice_get}
use Rattle.upc_cell.specs.declared.side.Side.{Side}
use Rattle.card_core.specs.declared.answer.Judgement.{Judgement}
use Rattle.card_core.specs.declared.answer.Unjudged.{Unjudged}
use Rattle.card_shelf.specs.declared.arrival.Arrival.{Arrival}
use Rattle.card_shelf.specs.Own.{own_arrivals, own_decisions}

-- These are the numbers of the cards' own arrivals.
abbrev pub CountsOwn : Side → ℕ → List Arrival → List ℕ → Type 0
CountsOwn side cards arrivals counts = (number count : ℕ) → slice_get counts number ≡ Some count
    → count ≡ length (own_arrivals side cards number arrivals)

-- The answers to these arrivals are, card by card, the first answers of the card.
abbrev pub IsGathered : Side → ℕ → List Arrival → List (List (Result Judgement Unjudged)) → List (Result Judgement Unjudged) → Type 0
IsGathered side cards arrivals cards_decisions decisions = (number : ℕ) (ts : List (Result Judgement Unjudged))
    → slice_get cards_decisions number ≡ Some ts
    → own_decisions side cards number arrivals decisions ≡ take (length (own_arrivals side cards number arrivals)) ts

-- The answers to all arrivals are, card by card, the answers of the card.
abbrev pub HasOwnDecisions : Side → ℕ → List Arrival → List (Result Judgement Unjudged) → List (List (Result Judgement Unjudged)) → Type 0
HasOwnDecisions side cards arrivals decisions cards_decisions = (number : ℕ) (ts : List (Result Judgement Unjudged))
    → slice_get cards_decisions number ≡ Some ts → own_decisions side cards number arrivals decisions ≡ ts

-- Each card has one answer for each of its own arrivals.
abbrev pub HaveOneEach : Side → ℕ → List Arrival → List (List (Result Judgement Unjudged)) → Type 0
HaveOneEach side cards arrivals cards_decisions = (number : ℕ) (ts : List (Result Judgement Unjudged))
    → slice_get cards_decisions number ≡ Some ts → length ts ≡ length (own_arrivals side cards number arrivals)
