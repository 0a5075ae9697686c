-- Loop invariant: the octets so far are the same.
use Rattle.std.proofs.Common.{◌≡◌, length}
use Rattle.cmd_explain_script.specs.Meant.{is_near}
use Rattle.cmd_explain_script.proofs.meant.is_near.Given as goal

abbrev pub invariant-loop-left : goal.invariant-loop-left
invariant-loop-left l = is_near l.left l.right ≡ is_near l.word l.other

abbrev pub decreases-loop-left : goal.decreases-loop-left
decreases-loop-left l = length l.left
