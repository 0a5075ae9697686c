use Rattle.std.proofs.Common.{◌≡◌, ◌≤◌, ℕ, Some, length, vec_capacity}
use Rattle.std.specs.Prelude.{slice_get}
use Rattle.card_core.specs.Agreement.{CoreAgrees}
use Rattle.card_core.specs.World.{opening_world}
use Rattle.card_shelf.specs.inner.Cards.{cores_of}
use Rattle.card_shelf.proofs.shelf.new_cards.Given as goal

abbrev pub invariant-loop : goal.invariant-loop
invariant-loop l = record {
  many : length l.cards.items ≡ l.counter;
  room : l.many ≤ vec_capacity l.cards;
  agrees : (number : ℕ) (core : _) → slice_get (cores_of l.cards.items) number ≡ Some core → CoreAgrees core (opening_world l.shape);
}
