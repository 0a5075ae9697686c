-- Loop invariant: none of the tokens so far is found.
use Rattle.std.proofs.Common.{◌≡◌, length}
use Rattle.cmd_explain.specs.BadLines.{first_bad_number}
use Rattle.cmd_explain.proofs.bad_lines.first_bad_number.Given as goal

abbrev pub invariant-loop-left : goal.invariant-loop-left
invariant-loop-left l = first_bad_number l.text l.left ≡ first_bad_number l.text l.tokens

abbrev pub decreases-loop-left : goal.decreases-loop-left
decreases-loop-left l = length l.left
