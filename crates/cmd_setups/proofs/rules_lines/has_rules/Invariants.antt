use Rattle.std.proofs.Common.{◌≡◌, length}
use Rattle.cmd_setups.specs.RulesLines.{rules_names}
use Rattle.cmd_setups.proofs.rules_lines.has_rules.Given as goal

abbrev pub invariant-loop-line : goal.invariant-loop-line
invariant-loop-line l = rules_names l.left ≡ rules_names l.script

abbrev pub decreases-loop-line : goal.decreases-loop-line
decreases-loop-line l = length l.left
