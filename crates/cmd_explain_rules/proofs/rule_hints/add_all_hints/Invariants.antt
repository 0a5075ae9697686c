-- Loop invariant: the hints so far and those that are left are all.
use Rattle.std.proofs.Common.{◌≡◌, ◌++◌, drop}
use Rattle.cmd_explain_rules.specs.RuleHints.{rule_hints}
use Rattle.cmd_explain_rules.proofs.rule_hints.add_all_hints.Given as goal

abbrev pub invariant-loop-one : goal.invariant-loop-one
invariant-loop-one l = l.answers.items ++ rule_hints l.front l.begins (drop l.one-index l.unused) ≡ l.fn.answers.items ++ rule_hints l.front l.begins l.unused
