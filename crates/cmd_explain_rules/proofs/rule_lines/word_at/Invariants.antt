-- Loop invariant: the tokens so far are in other columns.
use Rattle.std.proofs.Common.{◌≡◌, length}
use Rattle.cmd_explain_rules.specs.RuleLines.{word_at}
use Rattle.cmd_explain_rules.proofs.rule_lines.word_at.Given as goal

abbrev pub invariant-loop-left : goal.invariant-loop-left
invariant-loop-left l = word_at l.column l.left ≡ word_at l.column l.words

abbrev pub decreases-loop-left : goal.decreases-loop-left
decreases-loop-left l = length l.left
