-- Loop invariant: the tokens so far, and those of the rest, are all.
use Rattle.std.proofs.Common.{◌≡◌, ◌≤◌, ◌+◌, ◌++◌, false, length}
use Rattle.cmd_explain.specs.FoundTokens.{found_from}
use Rattle.cmd_explain.proofs.tokens.tokens_of.Given as goal

abbrev pub invariant-loop-left : goal.invariant-loop-left
invariant-loop-left l = record {
  within : l.at + length l.left ≤ length l.text;
  rest : l.tokens.items ++ found_from (l.at + 1) l.inside l.left ≡ found_from 1 false l.text;
}

abbrev pub decreases-loop-left : goal.decreases-loop-left
decreases-loop-left l = length l.left
