-- Loop invariant: the lines that are left complete what was taken.
use Rattle.std.proofs.Common.{◌+◌, ◌≤◌, length}
use Rattle.text_io.specs.Lines.{lines_of}
use Rattle.cmd_setups.specs.inner.TimedScripts.{TakesOn}
use Rattle.cmd_setups.proofs.timed_lines.take_times.Given as goal

abbrev pub invariant-loop-line : goal.invariant-loop-line
invariant-loop-line l = record {
  counted : l.met + length l.left ≤ length l.setup;
  takes : TakesOn l.setup l.met l.before (lines_of l.left) l.script.items l.times.items;
}

abbrev pub decreases-loop-line : goal.decreases-loop-line
decreases-loop-line l = length l.left
