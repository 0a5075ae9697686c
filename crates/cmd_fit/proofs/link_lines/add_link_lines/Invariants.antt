-- Loop invariant: the lines so far and those of the rest are the lines of all.
use Rattle.std.proofs.Common.{◌≡◌, ◌++◌}
use Rattle.std.specs.Prelude.{flat_map}
use Rattle.cmd_fit.specs.LinksText.{link_line}
use Rattle.cmd_fit.proofs.link_lines.add_link_lines.Given as goal

abbrev pub invariant-loop-link : goal.invariant-loop-link
invariant-loop-link l = l.answers.items ++ flat_map link_line l.link-iterator ≡ l.fn.answers.items ++ flat_map link_line l.rows.entries
