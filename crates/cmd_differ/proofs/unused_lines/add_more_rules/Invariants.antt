use Rattle.std.proofs.Common.{◌≡◌, ◌++◌, drop}
use Rattle.cmd_differ.specs.UnusedText.{more_rules_text}
use Rattle.cmd_differ.proofs.unused_lines.add_more_rules.Given as goal

abbrev pub invariant-loop-place : goal.invariant-loop-place
invariant-loop-place l =
    l.answers.items ++ more_rules_text l.begins (drop l.place-index l.places) ≡ l.fn.answers.items ++ more_rules_text l.begins l.places
