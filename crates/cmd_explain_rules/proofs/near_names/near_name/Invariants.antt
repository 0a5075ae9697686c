-- Loop invariant: the lines so far give no such name.
use Rattle.std.proofs.Common.{◌≡◌, ◌≤◌, ◌+◌, length}
use Rattle.rules_text.specs.ContinuedLines.{line_begin, rule_lines}
use Rattle.cmd_explain_rules.specs.NearNames.{near_name}
use Rattle.cmd_explain_rules.proofs.near_names.near_name.Given as goal

abbrev pub invariant-loop-line : goal.invariant-loop-line
invariant-loop-line l = record {
  line : l.begin.line + length l.left ≤ length l.text + 1;
  column : l.begin.column + length l.left ≤ length l.text + 1;
  rest : near_name l.place l.word l.fault l.begin (rule_lines l.left) ≡ near_name l.place l.word l.fault (line_begin 1) (rule_lines l.text);
}

abbrev pub decreases-loop-line : goal.decreases-loop-line
decreases-loop-line l = length l.left
