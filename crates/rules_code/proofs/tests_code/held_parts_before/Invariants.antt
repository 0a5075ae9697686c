use Rattle.std.proofs.Common.{◌≡◌, ◌<◌, ℕ, length, Some}
use Rattle.std.specs.List.{slice_get}
use Rattle.rules_code.specs.inner.Chains.{held_before}
use Rattle.rules_code.proofs.tests_code.held_parts_before.Given as goal

abbrev pub invariant-loop-test : goal.invariant-loop-test
invariant-loop-test l = (length l.parts.items ≡ l.test-index) × (l.held ≡ held_before l.on l.tests l.initial.held l.test-index)
    × ((at : ℕ) → at < l.test-index → slice_get l.parts.items at ≡ Some (held_before l.on l.tests l.initial.held at))
