-- Loop invariant: the parentheses that are open after the tokens so far lead to those at the end of the test.
use Rattle.std.proofs.Common.{◌≡◌, ◌≤◌, ◌+◌, length}
use Rattle.cmd_explain_rules.specs.RuleLines.{depth_from}
use Rattle.cmd_explain_rules.proofs.rule_lines.depth_of.Given as goal

abbrev pub invariant-loop-left : goal.invariant-loop-left
invariant-loop-left l = record {
  within : l.depth + length l.left ≤ length l.words;
  rest : depth_from l.depth l.left ≡ depth_from 0 l.words;
}

abbrev pub decreases-loop-left : goal.decreases-loop-left
decreases-loop-left l = length l.left
