-- Loop invariant: what was passed, and the lines before the first time among those that are left, are all lines before it.
use Rattle.std.proofs.Common.{◌≡◌, ◌≤◌, ◌+◌, ◌-◌, ◌++◌, drop, length, take}
use Rattle.text_io.specs.Lines.{lines_of}
use Rattle.cmd_setups.specs.TimedLines.{octets_before_times}
use Rattle.cmd_setups.proofs.stored_commands.before_times.Given as goal

abbrev pub invariant-loop-octets : goal.invariant-loop-octets
invariant-loop-octets l = record {
  counted : l.at + length l.left ≡ length l.script;
  met : l.met ≤ length l.times;
  split : take l.at l.script ++ l.left ≡ l.script;
  found : take l.at l.script ++ octets_before_times (drop l.met l.times) (lines_of l.left) ≡ octets_before_times l.times (lines_of l.script);
}

abbrev pub decreases-loop-octets : goal.decreases-loop-octets
decreases-loop-octets l = length l.times - l.met
