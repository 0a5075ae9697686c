-- The octets before this one belong to the line.
use Rattle.std.proofs.Common.{◌≡◌, ◌≤◌, ◌+◌, length}
use Rattle.rules_text.specs.ContinuedLines.{nothing_around}
use Rattle.rules_text.specs.inner.SeenLines.{around_seen, line_size}
use Rattle.rules_text.proofs.continued_lines.rule_line_len.Given as goal

abbrev pub invariant-loop-left : goal.invariant-loop-left
invariant-loop-left l = record {
  counted : l.at + length l.left ≡ length l.text;
  parentheses : l.around.parentheses ≤ l.at;
  size : l.at + line_size (around_seen l.around) l.left ≡ line_size nothing_around l.text;
}

abbrev pub decreases-loop-left : goal.decreases-loop-left
decreases-loop-left l = length l.left
