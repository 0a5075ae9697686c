-- Loop invariant: the lines so far and those of the rest are the lines of all.
use Rattle.std.proofs.Common.{◌≡◌, ◌++◌}
use Rattle.std.specs.Prelude.{flat_map}
use Rattle.std.specs.Map.{values_of}
use Rattle.cmd_fit.specs.FitText.{fit_line}
use Rattle.cmd_fit.proofs.fit_lines.add_ordered.Given as goal

abbrev pub invariant-loop-fit : goal.invariant-loop-fit
invariant-loop-fit l =
    l.answers.items ++ flat_map (fit_line l.side l.valued) l.fit-iterator
    ≡ l.fn.answers.items ++ flat_map (fit_line l.side l.valued) (values_of l.ordered.entries)
