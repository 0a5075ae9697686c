use Rattle.std.proofs.Common.{◌≡◌, ◌++◌, drop}
use Rattle.cmd_differ.specs.UnusedText.{unused_lines}
use Rattle.cmd_differ.proofs.unused_lines.add_unused_lines.Given as goal

abbrev pub invariant-loop-one : goal.invariant-loop-one
invariant-loop-one l =
    l.answers.items ++ unused_lines l.begins (drop l.one-index l.unused) ≡ l.fn.answers.items ++ unused_lines l.begins l.unused
