use Rattle.std.proofs.Common.{◌≡◌, ◌<◌, ℕ, [], Some}
use Rattle.std.specs.Prelude.{slice_get}
use Rattle.card_shelf.specs.inner.Rooms.{HaveRoom}
use Rattle.card_shelf.proofs.dealing.clear_all.Given as goal

abbrev pub invariant-loop-number : goal.invariant-loop-number
invariant-loop-number l = record {
  empty : (k : ℕ) (places : _) → k < l.number → slice_get l.lists k ≡ Some places → places.items ≡ [];
  kept : (most : ℕ) → HaveRoom most l.fn.lists → HaveRoom most l.lists;
}
