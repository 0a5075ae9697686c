-- The set of the pairs of numbers that meetings have.
use Rattle.std.specs.Prelude.{◌≡◌, ℕ, List}
use Rattle.std.specs.BTreeSet.{BTreeSet, contains}
use Rattle.std.specs.Ordering.{nat_cmp, ordering_then}
use Rattle.std.specs.declared.cmp.Ordering.{Ordering}
use Rattle.rules_diagrams.specs.inner.Meetings.{has_pair}
use Rattle.rules_diagrams.specs.declared.meeting.Meeting.{Meeting}

-- The order of pairs: by the first number, then by the other.
abbrev pub pair_cmp : ℕ × ℕ → ℕ × ℕ → Ordering
pair_cmp one other = ordering_then (nat_cmp one.0 other.0) (nat_cmp one.1 other.1)

-- The set has exactly the pairs of numbers that the meetings have.
abbrev pub ArePairs : BTreeSet (ℕ × ℕ) → List Meeting → Type 0
ArePairs pairs meetings = (one other : ℕ) → contains pair_cmp pairs (one, other) ≡ has_pair meetings one other
