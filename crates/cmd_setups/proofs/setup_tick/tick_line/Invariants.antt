-- Loop invariant: the place of the lines that are left, and that no line before them has words.
use Rattle.std.proofs.Common.{◌≡◌, ◌+◌, length}
use Rattle.text_io.specs.Lines.{lines_of}
use Rattle.cmd_setups.specs.SetupTick.{tick_line_in}
use Rattle.cmd_setups.proofs.setup_tick.tick_line.Given as goal

abbrev pub invariant-loop-line : goal.invariant-loop-line
invariant-loop-line l = record {
  counted : l.at + length l.left ≡ length l.script;
  found : tick_line_in l.at (lines_of l.left) ≡ tick_line_in 0 (lines_of l.script);
}

abbrev pub decreases-loop-line : goal.decreases-loop-line
decreases-loop-line l = length l.left
