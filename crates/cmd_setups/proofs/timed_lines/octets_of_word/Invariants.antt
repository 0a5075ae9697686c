use Rattle.std.proofs.Common.{◌≡◌, ◌+◌, length}
use Rattle.cmd_setups.specs.TimedLines.{octets_of_word}
use Rattle.cmd_setups.proofs.timed_lines.octets_of_word.Given as goal

abbrev pub invariant-loop-left : goal.invariant-loop-left
invariant-loop-left l = record {
  counted : l.count + length l.left ≡ length l.octets;
  found : l.count + octets_of_word l.left ≡ octets_of_word l.octets;
}

abbrev pub decreases-loop-left : goal.decreases-loop-left
decreases-loop-left l = length l.left
