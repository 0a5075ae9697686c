-- How a shelf keeps its cards.
use Rattle.std.specs.Prelude.{◌≡◌, ℕ, ◌<◌, ◌≤◌, List, [], length, map, Some, Result, vec_capacity, slice_get}
use Rattle.card_core.specs.Agreement.{CoreView}
use Rattle.card_core.specs.declared.answer.Judgement.{Judgement}
use Rattle.card_core.specs.declared.answer.Unjudged.{Unjudged}
use Rattle.card_shelf.specs.declared.card.Card.{Card}
use Rattle.card_shelf.specs.inner.Rest.{IsAtRest}

-- The cards, without what they keep while arrivals are policed.
abbrev pub cores_of : List Card → List CoreView
cores_of cards = map (λ card. card.core) cards

-- The answers of each card.
abbrev pub decisions_of : List Card → List (List (Result Judgement Unjudged))
decisions_of cards = map (λ card. card.decisions.items) cards

-- The card has no answer yet, and has room for this number of answers.
pub record IsReady (card : Card) (many : ℕ) : Type 0 where
  pub empty : card.decisions.items ≡ []
  pub room : many ≤ vec_capacity card.decisions

-- Each card is at rest.
abbrev pub AreAtRest : List CoreView → Type 0
AreAtRest cores = (number : ℕ) (core : CoreView) → slice_get cores number ≡ Some core → IsAtRest core

-- There are 1 to 64 cards, and each is at rest.
pub record IsShelf (cards : List Card) : Type 0 where
  pub some : 0 < length cards
  pub most : length cards ≤ 64
  pub rest : AreAtRest (cores_of cards)
