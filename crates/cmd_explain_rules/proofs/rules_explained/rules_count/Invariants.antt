-- Loop invariant: the rules that were counted, and those that are left, are all.
use Rattle.std.proofs.Common.{◌≡◌, ◌≤◌, ◌+◌, length, map}
use Rattle.rules_text.specs.RulesRead.{line_read}
use Rattle.cmd_explain_rules.specs.RulesExplained.{rules_count}
use Rattle.cmd_explain_rules.proofs.rules_explained.rules_count.Given as goal

abbrev pub invariant-loop-left : goal.invariant-loop-left
invariant-loop-left l = record {
  within : l.count + length l.left ≤ length l.lines;
  rest : l.count + rules_count (map line_read l.left) ≡ rules_count (map line_read l.lines);
}

abbrev pub decreases-loop-left : goal.decreases-loop-left
decreases-loop-left l = length l.left
