-- Lists with room for a batch.
use Rattle.std.specs.Prelude.{◌≡◌, ◌≤◌, ℕ, List, Some, Result, length, vec_capacity, slice_get}
use Rattle.std.specs.Global.{Vec}
use Rattle.card_core.specs.declared.answer.Judgement.{Judgement}
use Rattle.card_core.specs.declared.answer.Unjudged.{Unjudged}
use Rattle.card_shelf.specs.declared.batch.Batch.{Batch}
use Rattle.card_shelf.specs.declared.card.Card.{Card}

-- Each of these lists of places has room for this number of places.
abbrev pub HaveRoom : ℕ → List (Vec ℕ) → Type 0
HaveRoom most lists = (number : ℕ) (places : Vec ℕ) → slice_get lists number ≡ Some places → most ≤ vec_capacity places

-- Each of these lists of places has at most this number of places.
abbrev pub AreShort : ℕ → List (Vec ℕ) → Type 0
AreShort most lists = (number : ℕ) (places : Vec ℕ) → slice_get lists number ≡ Some places → length places.items ≤ most

-- From this number on each of these lists of answers has room for this number of answers.
abbrev pub ListsHaveRoom : ℕ → ℕ → List (Vec (Result Judgement Unjudged)) → Type 0
ListsHaveRoom from most lists = (number : ℕ) (decisions : Vec (Result Judgement Unjudged)) → from ≤ number
    → slice_get lists number ≡ Some decisions → most ≤ vec_capacity decisions

-- Each card has room for this number of answers.
abbrev pub CardsRoom : ℕ → List Card → Type 0
CardsRoom most cards = (number : ℕ) (card : Card) → slice_get cards number ≡ Some card → most ≤ vec_capacity card.decisions

-- The lists of a batch have room for this number of arrivals on a shelf of this number of cards.
pub record BatchHasRoom (cards most : ℕ) (batch : Batch) : Type 0 where
  pub sized : length batch.dealt.items ≡ cards
  pub dealt : HaveRoom most batch.dealt.items
  pub numbers : most ≤ vec_capacity batch.numbers
  pub decisions : most ≤ vec_capacity batch.decisions

-- A room for batches of this number of arrivals has its lists for each of its cards.
pub record IsRoom (most : ℕ) (decision_lists : List (Vec (Result Judgement Unjudged))) (batch : Batch) : Type 0 where
  pub each_list : ListsHaveRoom 0 most decision_lists
  pub lists : BatchHasRoom (length decision_lists) most batch
