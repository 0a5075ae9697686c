-- Arrivals by their places in a list.
use Rattle.std.specs.Prelude.{◌≡◌, ◌<◌, ℕ, All, List, [], ◌∷◌, length, take, Option, Some, None, slice_get}
use Rattle.upc_cell.specs.declared.side.Side.{Side}
use Rattle.card_shelf.specs.declared.arrival.Arrival.{Arrival}
use Rattle.card_shelf.specs.Own.{own_arrivals}

-- The arrival, if there is one, before the others.
abbrev pub with_arrival : Option Arrival → List Arrival → List Arrival
with_arrival None others = others
with_arrival (Some arrival) others = arrival ∷ others

-- The arrivals at these places.
abbrev pub picked : List Arrival → List ℕ → List Arrival
picked arrivals [] = []
picked arrivals (place ∷ places) = with_arrival (slice_get arrivals place) (picked arrivals places)

-- These are the places of a card's arrivals among the first arrivals, up to this number.
pub record AreOwn (side : Side) (cards : ℕ) (arrivals : List Arrival) (count number : ℕ) (places : List ℕ) : Type 0 where
  pub own : picked arrivals places ≡ own_arrivals side cards number (take count arrivals)
  pub within : All (λ place. place < length arrivals) places

-- Of the first arrivals, up to this number, each card has the places of its own.
abbrev pub IsDealt : Side → ℕ → List Arrival → ℕ → List (List ℕ) → Type 0
IsDealt side cards arrivals count dealt = (number : ℕ) (places : List ℕ) → slice_get dealt number ≡ Some places
    → AreOwn side cards arrivals count number places
