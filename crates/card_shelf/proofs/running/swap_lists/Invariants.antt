use Rattle.std.proofs.Common.{◌≡◌, ◌<◌, ◌≤◌, ℕ, Some, vec_capacity}
use Rattle.std.specs.Prelude.{slice_get}
use Rattle.card_shelf.specs.inner.Cards.{cores_of}
use Rattle.card_shelf.specs.inner.Rooms.{ListsHaveRoom, CardsRoom}
use Rattle.card_shelf.proofs.running.swap_lists.Given as goal

abbrev pub invariant-loop-number : goal.invariant-loop-number
invariant-loop-number l = record {
  cores : cores_of l.cards ≡ cores_of l.fn.cards;
  lent : (most : ℕ) → ListsHaveRoom 0 most l.fn.decision_lists → (k : ℕ) (card : _) → k < l.number → slice_get l.cards k ≡ Some card
      → most ≤ vec_capacity card.decisions;
  back : (most : ℕ) → CardsRoom most l.fn.cards → (k : ℕ) (decisions : _) → k < l.number → slice_get l.decision_lists k ≡ Some decisions
      → most ≤ vec_capacity decisions;
  cards : (k : ℕ) → l.number ≤ k → slice_get l.cards k ≡ slice_get l.fn.cards k;
  decision_lists : (k : ℕ) → l.number ≤ k → slice_get l.decision_lists k ≡ slice_get l.fn.decision_lists k;
}
