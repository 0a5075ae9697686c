-- The lines so far, and those about the rules that are left, are the lines about all rules.
use Rattle.std.proofs.Common.{◌≡◌, ◌≤◌, ◌+◌, ◌++◌, length, map}
use Rattle.rules_text.specs.RulesRead.{line_read}
use Rattle.cmd_rules.specs.CountText.{rule_counts}
use Rattle.cmd_rules.specs.inner.Counted.{count_at}
use Rattle.cmd_rules.proofs.counting.Counts.add_to.Given as goal

abbrev pub invariant-loop-left : goal.invariant-loop-left
invariant-loop-left l = record {
  within : l.place + length l.left ≤ length l.placed_rules.rules.lines.items;
  lines : l.answers.items ++ rule_counts l.placed_rules.begins.items (count_at l.self) l.place (map line_read l.left)
      ≡ l.fn.answers.items ++ rule_counts l.placed_rules.begins.items (count_at l.self) 0 (map line_read l.placed_rules.rules.lines.items);
}

abbrev pub decreases-loop-left : goal.decreases-loop-left
decreases-loop-left l = length l.left
