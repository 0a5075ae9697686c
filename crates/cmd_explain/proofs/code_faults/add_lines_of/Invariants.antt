-- Loop invariant: the lines so far were added.
use Rattle.std.proofs.Common.{◌≡◌, ◌++◌, length}
use Rattle.cmd_explain.specs.CodeReasons.{numbers_text}
use Rattle.cmd_explain.proofs.code_faults.add_lines_of.Given as goal

abbrev pub invariant-loop-left : goal.invariant-loop-left
invariant-loop-left l = l.answers.items ++ numbers_text l.numbers l.left ≡ l.fn.answers.items ++ numbers_text l.numbers l.places

abbrev pub decreases-loop-left : goal.decreases-loop-left
decreases-loop-left l = length l.left
