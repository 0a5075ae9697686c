use Rattle.std.proofs.Common.{◌≡◌, ◌≤◌, length, drop}
use Rattle.rules_code.specs.inner.Joining.{joined_spans}
use Rattle.rules_code.proofs.order.joined_spans.Given as goal

abbrev pub invariant-loop-left : goal.invariant-loop-left
invariant-loop-left l = (l.left ≤ length l.sorted) × (l.joined.items ≡ joined_spans (drop l.left l.sorted))

abbrev pub decreases-loop-left : goal.decreases-loop-left
decreases-loop-left l = l.left
