-- Loop invariant: what was counted, and what is left to count, are all.
use Rattle.std.proofs.Common.{◌≡◌, ◌≤◌, ◌+◌, length}
use Rattle.cmd_explain.specs.LinesFound.{count_between}
use Rattle.cmd_explain.proofs.lines_found.count_between.Given as goal

abbrev pub invariant-loop-left : goal.invariant-loop-left
invariant-loop-left l = record {
  within : l.count + length l.left ≤ length l.numbers;
  rest : l.count + count_between l.low l.high l.left ≡ count_between l.low l.high l.numbers;
}

abbrev pub decreases-loop-left : goal.decreases-loop-left
decreases-loop-left l = length l.left
