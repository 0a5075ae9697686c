-- Loop invariant: the lines so far and those of the rest are the lines of all.
use Rattle.std.proofs.Common.{◌≡◌, ◌++◌}
use Rattle.std.specs.Prelude.{flat_map}
use Rattle.std.specs.Map.{values_of}
use Rattle.cmd_setups.specs.SpanCounts.{span_line}
use Rattle.cmd_setups.proofs.span_rows.add_lines.Given as goal

abbrev pub invariant-loop-row : goal.invariant-loop-row
invariant-loop-row l = l.answers.items ++ flat_map (span_line l.side l.begin) l.row-iterator ≡ l.fn.answers.items ++ flat_map (span_line l.side l.begin) (values_of l.rows.entries)
