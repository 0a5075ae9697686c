-- The counts so far are those before, and then counts of 0. One more is nearer to the place.
use Rattle.std.proofs.Common.{◌≡◌, ◌+◌, ◌-◌, ℕ, get_or, length}
use Rattle.cmd_rules.proofs.counting.reach.Given as goal

abbrev pub invariant-loop-counts : goal.invariant-loop-counts
invariant-loop-counts l = (at : ℕ) → get_or l.counts.items at 0 ≡ get_or l.fn.counts.items at 0

abbrev pub decreases-loop-counts : goal.decreases-loop-counts
decreases-loop-counts l = l.place + 1 - length l.counts.items
