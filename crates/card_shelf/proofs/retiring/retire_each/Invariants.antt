use Rattle.std.proofs.Common.{◌≡◌, ◌<◌, ◌≤◌, ℕ, Some}
use Rattle.std.specs.Prelude.{slice_get}
use Rattle.card_shelf.specs.Programs.{RetiresOn}
use Rattle.card_shelf.proofs.retiring.retire_each.Given as goal

abbrev pub invariant-loop-number : goal.invariant-loop-number
invariant-loop-number l = record {
  retired : (k : ℕ) (card next : _) (id : _) → k < l.number → slice_get l.fn.cards k ≡ Some card → slice_get l.cards k ≡ Some next
      → slice_get l.ids k ≡ Some id → RetiresOn id card.core next.core;
  rest : (k : ℕ) → l.number ≤ k → slice_get l.cards k ≡ slice_get l.fn.cards k;
}
