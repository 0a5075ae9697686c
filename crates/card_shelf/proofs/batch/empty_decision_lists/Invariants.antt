use Rattle.std.proofs.Common.{◌≡◌, ◌≤◌, length, vec_capacity}
use Rattle.card_shelf.specs.inner.Rooms.{ListsHaveRoom}
use Rattle.card_shelf.proofs.batch.empty_decision_lists.Given as goal

abbrev pub invariant-loop : goal.invariant-loop
invariant-loop l = record {
  many : length l.lists.items ≡ l.counter;
  spare : l.cards ≤ vec_capacity l.lists;
  room : ListsHaveRoom 0 l.most l.lists.items;
}
