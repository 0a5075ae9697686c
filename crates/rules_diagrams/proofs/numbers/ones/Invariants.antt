use Rattle.std.proofs.Common.{◌≡◌, ℕ, ◌||◌, drop}
use Rattle.std.specs.BTreeSet.{contains}
use Rattle.std.specs.Ordering.{nat_cmp}
use Rattle.rules_diagrams.specs.inner.Numbers.{has_one}
use Rattle.rules_diagrams.proofs.numbers.ones.Given as goal

abbrev pub invariant-loop-meeting : goal.invariant-loop-meeting
invariant-loop-meeting l = (n : ℕ) → (contains nat_cmp l.numbers n || has_one (drop l.meeting-index l.meetings) n) ≡ has_one l.meetings n
