use Rattle.std.proofs.Common.{◌≡◌, ◌<◌, ℕ, Some, None}
use Rattle.std.specs.Prelude.{slice_get}
use Rattle.card_core.specs.Inspection.{IsRetireFault}
use Rattle.card_shelf.specs.inner.Cards.{cores_of}
use Rattle.card_shelf.proofs.retiring.retire_fault.Given as goal

abbrev pub invariant-loop-first : goal.invariant-loop-first
invariant-loop-first l = record {
  none : (k : ℕ) (core : _) (id : _) → k < l.first → slice_get (cores_of l.cards) k ≡ Some core → slice_get l.ids k ≡ Some id
      → IsRetireFault core id None;
}
