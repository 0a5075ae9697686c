use Rattle.std.proofs.Common.{◌≤◌, ◌<◌, ◌+◌, ◌*◌, ◌-◌, ℕ, length, get_or}
use Rattle.captures.proofs.content.extensions_in.Given as goal

abbrev pub invariant-loop-count : goal.invariant-loop-count
invariant-loop-count l =
    record {
      more : (k : ℕ) → k < l.count → 128 ≤ get_or l.octets (8 + 8 * k) 0;
      bounded : 8 * l.count ≤ length l.octets;
    }

abbrev pub decreases-loop-count : goal.decreases-loop-count
decreases-loop-count l = length l.octets - l.count
