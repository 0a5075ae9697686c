-- Loop invariant: the line is in the rest of the text.
use Rattle.std.proofs.Common.{◌≡◌, ◌≤◌, ◌+◌, length}
use Rattle.rules_text.specs.ContinuedLines.{line_begin, rule_lines}
use Rattle.cmd_explain_rules.specs.RuleLines.{line_holding}
use Rattle.cmd_explain_rules.proofs.rule_lines.line_holding.Given as goal

abbrev pub invariant-loop-line : goal.invariant-loop-line
invariant-loop-line l = record {
  line : l.begin.line + length l.left ≤ length l.text + 1;
  column : l.begin.column + length l.left ≤ length l.text + 1;
  rest : line_holding l.begin (rule_lines l.left) l.kind l.fault ≡ line_holding (line_begin 1) (rule_lines l.text) l.kind l.fault;
}

abbrev pub decreases-loop-line : goal.decreases-loop-line
decreases-loop-line l = length l.left
