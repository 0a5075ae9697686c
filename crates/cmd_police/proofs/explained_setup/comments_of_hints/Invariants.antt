-- Loop invariant: the hints so far, and those of the lines that are left, are those of all lines.
use Rattle.std.proofs.Common.{◌≡◌, ◌++◌, length}
use Rattle.text_io.specs.Lines.{lines_of}
use Rattle.cmd_police.specs.ExplainedSetups.{comments_of_hints}
use Rattle.cmd_police.proofs.explained_setup.comments_of_hints.Given as goal

abbrev pub invariant-loop-content : goal.invariant-loop-content
invariant-loop-content l = l.hints.items ++ comments_of_hints (lines_of l.left) ≡ comments_of_hints (lines_of l.text)

abbrev pub decreases-loop-content : goal.decreases-loop-content
decreases-loop-content l = length l.left
