use Rattle.std.proofs.Common.{◌≡◌, ◌++◌, drop}
use Rattle.cmd_differ.specs.ChangeLines.{cases_text}
use Rattle.cmd_differ.specs.inner.SidesRead.{side_read}
use Rattle.cmd_differ.proofs.change_lines.add_cases.Given as goal

abbrev pub invariant-loop-case : goal.invariant-loop-case
invariant-loop-case l =
    l.answers.items ++ cases_text l.lines (side_read l.old) (side_read l.new) (drop l.case-index l.cases)
    ≡ l.fn.answers.items ++ cases_text l.lines (side_read l.old) (side_read l.new) l.cases
