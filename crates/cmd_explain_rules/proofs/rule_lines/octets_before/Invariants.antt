-- Loop invariant: the octets so far, and those in the rest.
use Rattle.std.proofs.Common.{◌≡◌, ◌+◌, length}
use Rattle.cmd_explain_rules.specs.RuleLines.{octets_before}
use Rattle.cmd_explain_rules.proofs.rule_lines.octets_before.Given as goal

abbrev pub invariant-loop-left : goal.invariant-loop-left
invariant-loop-left l = record {
  counted : l.count + length l.left ≡ length l.line;
  rest : l.count + octets_before l.more l.left ≡ octets_before l.source_lines l.line;
}

abbrev pub decreases-loop-left : goal.decreases-loop-left
decreases-loop-left l = length l.left
