use Rattle.std.proofs.Common.{◌≡◌, ◌<◌, ℕ, Some, length}
use Rattle.std.specs.Prelude.{slice_get}
use Rattle.card_shelf.specs.inner.Cards.{cores_of, IsReady}
use Rattle.card_shelf.specs.inner.Rooms.{CardsRoom}
use Rattle.card_shelf.proofs.running.make_room.Given as goal

abbrev pub invariant-loop-number : goal.invariant-loop-number
invariant-loop-number l = record {
  cores : cores_of l.cards ≡ cores_of l.fn.cards;
  ready : (number : ℕ) (card : _) (places : _) → number < l.number → slice_get l.cards number ≡ Some card
      → slice_get l.dealt number ≡ Some places → IsReady card (length places.items);
  kept : (most : ℕ) → CardsRoom most l.fn.cards → CardsRoom most l.cards;
}
