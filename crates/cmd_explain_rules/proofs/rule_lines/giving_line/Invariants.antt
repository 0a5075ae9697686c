-- Loop invariant: the lines so far don't give the name.
use Rattle.std.proofs.Common.{◌≡◌, ◌≤◌, ◌+◌, length}
use Rattle.rules_text.specs.ContinuedLines.{line_begin, rule_lines}
use Rattle.cmd_explain_rules.specs.RuleLines.{giving_line}
use Rattle.cmd_explain_rules.proofs.rule_lines.giving_line.Given as goal

abbrev pub invariant-loop-line : goal.invariant-loop-line
invariant-loop-line l = record {
  line : l.begin.line + length l.left ≤ length l.text + 1;
  column : l.begin.column + length l.left ≤ length l.text + 1;
  rest : giving_line l.name l.begin (rule_lines l.left) ≡ giving_line l.name (line_begin 1) (rule_lines l.text);
}

abbrev pub decreases-loop-line : goal.decreases-loop-line
decreases-loop-line l = length l.left
