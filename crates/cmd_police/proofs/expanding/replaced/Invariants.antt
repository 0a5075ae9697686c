use Rattle.std.proofs.Common.{◌≤◌, ◌+◌, length}
use Rattle.cmd_setups.specs.SharedTexts.{octets_of_texts}
use Rattle.cmd_police.specs.inner.Expansion.{Completes}
use Rattle.cmd_police.proofs.expanding.replaced.Given as goal

abbrev pub invariant-loop-line : goal.invariant-loop-line
invariant-loop-line l = record {
  counted : l.number + length l.left ≤ length l.script;
  completes : Completes l.script (octets_of_texts l.texts) l.made.items l.number l.left (octets_of_texts l.texts_left);
}

abbrev pub decreases-loop-line : goal.decreases-loop-line
decreases-loop-line l = length l.left
