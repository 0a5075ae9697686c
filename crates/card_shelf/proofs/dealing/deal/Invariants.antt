use Rattle.std.proofs.Common.{◌≡◌, ◌≤◌, ℕ, length, map, take, vec_len, vec_capacity}
use Rattle.card_shelf.specs.Dealing.{card_for}
use Rattle.card_shelf.specs.inner.Places.{IsDealt}
use Rattle.card_shelf.specs.inner.Rooms.{HaveRoom, AreShort}
use Rattle.card_shelf.proofs.dealing.deal.Given as goal

abbrev pub invariant-loop-place : goal.invariant-loop-place
invariant-loop-place l = record {
  dealt : IsDealt l.side l.cards l.arrivals l.place (map (λ v. v.items) l.dealt);
  short : AreShort l.place l.dealt;
  sized : length l.dealt ≡ length l.fn.dealt;
  kept : (most : ℕ) → HaveRoom most l.fn.dealt → HaveRoom most l.dealt;
  numbers : l.numbers.items ≡ map (card_for l.side l.cards) (take l.place l.arrivals);
  many : vec_len l.numbers ≡ l.place;
  room : length l.arrivals ≤ vec_capacity l.numbers;
  grown : vec_capacity l.fn.numbers ≤ vec_capacity l.numbers;
}
