use Rattle.std.proofs.Common.{◌≡◌, ◌+◌, length}
use Rattle.cmd_setups.specs.TimedLines.{blanks_before}
use Rattle.cmd_setups.proofs.timed_lines.blanks_before.Given as goal

abbrev pub invariant-loop-left : goal.invariant-loop-left
invariant-loop-left l = record {
  counted : l.count + length l.left ≡ length l.octets;
  found : l.count + blanks_before l.left ≡ blanks_before l.octets;
}

abbrev pub decreases-loop-left : goal.decreases-loop-left
decreases-loop-left l = length l.left
