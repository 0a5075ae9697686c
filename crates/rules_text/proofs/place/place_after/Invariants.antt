-- The octets from this place on end where all octets do.
use Rattle.std.proofs.Common.{◌≡◌, ◌≤◌, ◌+◌, length}
use Rattle.rules_text.specs.ContinuedLines.{place_past}
use Rattle.rules_text.proofs.place.place_after.Given as goal

abbrev pub invariant-loop-left : goal.invariant-loop-left
invariant-loop-left l = record {
  line : l.place.line + length l.left ≤ l.fn.begin.line + length l.octets;
  column : l.place.column + length l.left ≤ l.fn.begin.column + length l.octets;
  rest : place_past l.place l.left ≡ place_past l.fn.begin l.octets;
}

abbrev pub decreases-loop-left : goal.decreases-loop-left
decreases-loop-left l = length l.left
