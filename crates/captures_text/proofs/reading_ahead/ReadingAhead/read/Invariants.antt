-- Loop invariant: the frames so far were read.
use Rattle.std.proofs.Common.{length}
use Rattle.captures_text.specs.inner.Ahead.{ReadsSoFar}
use Rattle.captures_text.proofs.reading_ahead.ReadingAhead.read.Given as goal

abbrev pub invariant-loop-stop : goal.invariant-loop-stop
invariant-loop-stop l = ReadsSoFar l.fn.self l.self l.fn.cells.items l.cells.items

-- Each frame has some octets.
abbrev pub decreases-loop-stop : goal.decreases-loop-stop
decreases-loop-stop l = length l.self.window
