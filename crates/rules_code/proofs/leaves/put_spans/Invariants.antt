use Rattle.std.proofs.Common.{drop, ◌≤◌, length}
use Rattle.rules_code.specs.TestCode.{spans_code}
use Rattle.rules_code.specs.inner.Making.{IsMade}
use Rattle.rules_code.proofs.leaves.put_spans.Given as goal

abbrev pub invariant-loop-left : goal.invariant-loop-left
invariant-loop-left l = (l.left ≤ length l.others) × IsMade (spans_code l.mask (drop l.left l.others) l.initial.draft l.met l.unmet) l.draft l.ways

abbrev pub decreases-loop-left : goal.decreases-loop-left
decreases-loop-left l = l.left
