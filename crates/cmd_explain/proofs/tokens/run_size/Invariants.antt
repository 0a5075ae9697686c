-- Loop invariant: what was counted, and what is left to count, are all.
use Rattle.std.proofs.Common.{◌≡◌, ◌≤◌, ◌+◌, length}
use Rattle.cmd_explain.specs.FoundTokens.{run_size}
use Rattle.cmd_explain.proofs.tokens.run_size.Given as goal

abbrev pub invariant-loop-left : goal.invariant-loop-left
invariant-loop-left l = record {
  within : l.size + length l.left ≤ length l.text;
  rest : l.size + run_size l.left ≡ run_size l.text;
}

abbrev pub decreases-loop-left : goal.decreases-loop-left
decreases-loop-left l = length l.left
