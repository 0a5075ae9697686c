-- Loop invariant: the rules so far and those that are left are all.
use Rattle.std.proofs.Common.{◌≡◌, ◌++◌, length}
use Rattle.cmd_explain_rules.specs.RuleHints.{rules_after_first}
use Rattle.cmd_explain_rules.proofs.rule_hints.add_rules_after_first.Given as goal

abbrev pub invariant-loop-left : goal.invariant-loop-left
invariant-loop-left l = l.answers.items ++ rules_after_first l.begins l.room l.left ≡ l.fn.answers.items ++ rules_after_first l.begins 7 l.takers

abbrev pub decreases-loop-left : goal.decreases-loop-left
decreases-loop-left l = length l.left
