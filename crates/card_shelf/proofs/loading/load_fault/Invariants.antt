use Rattle.std.proofs.Common.{◌≡◌, ◌<◌, ℕ, Some, None}
use Rattle.std.specs.Prelude.{slice_get}
use Rattle.card_core.specs.Inspection.{load_fault_of}
use Rattle.card_shelf.specs.inner.Cards.{cores_of}
use Rattle.card_shelf.proofs.loading.load_fault.Given as goal

abbrev pub invariant-loop-first : goal.invariant-loop-first
invariant-loop-first l = record {
  none : (k : ℕ) (core : _) → k < l.first → slice_get (cores_of l.cards) k ≡ Some core → load_fault_of core ≡ None;
}
