use Rattle.std.proofs.Common.{◌≡◌, ◌≤◌, ◌+◌, ℕ, Some, length, vec_capacity}
use Rattle.std.specs.Prelude.{All, slice_get}
use Rattle.card_shelf.specs.Programs.{LoadsOn}
use Rattle.card_shelf.proofs.loading.load_each.Given as goal

abbrev pub invariant-loop-number : goal.invariant-loop-number
invariant-loop-number l = record {
  left : length l.copies.items + l.number ≡ length l.cards;
  same : All (λ copy. copy ≡ l.code) l.copies.items;
  decisions : length l.ids.items ≡ l.number;
  room : length l.cards ≤ vec_capacity l.ids;
  loaded : (k : ℕ) (card next : _) (id : _) → slice_get l.fn.cards k ≡ Some card → slice_get l.cards k ≡ Some next
      → slice_get l.ids.items k ≡ Some id → LoadsOn l.code id card.core next.core;
  rest : (k : ℕ) → l.number ≤ k → slice_get l.cards k ≡ slice_get l.fn.cards k;
}
