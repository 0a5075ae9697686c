use Rattle.std.proofs.Common.{◌≡◌, ◌≤◌, length, drop, reverse, None}
use Rattle.rules_code.specs.LineCode.{lines_coded}
use Rattle.rules_code.specs.LinePlaces.{starts_where_held}
use Rattle.rules_code.specs.inner.Held.{held_at}
use Rattle.rules_code.specs.inner.Coding.{coded_of}
use Rattle.rules_code.proofs.lines.put_lines.Given as goal

abbrev pub invariant-loop-left : goal.invariant-loop-left
invariant-loop-left l = record {
  within : l.left ≤ length l.lines;
  coded : coded_of l.coding ≡ lines_coded (drop l.left l.lines) (held_at l.lines None l.left) l.otherwise;
  starts_from_end : reverse l.starts_from_end.items ≡ starts_where_held (drop l.left l.lines) (held_at l.lines None l.left) l.otherwise;
}

abbrev pub decreases-loop-left : goal.decreases-loop-left
decreases-loop-left l = l.left
