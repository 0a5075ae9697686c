-- Loop invariant: the rest has the words of the line.
use Rattle.std.proofs.Common.{◌≡◌, length}
use Rattle.text_io.specs.Words.{words_of}
use Rattle.text_io.proofs.words.after_blanks.Given as goal

abbrev pub invariant-loop-rest : goal.invariant-loop-rest
invariant-loop-rest l = words_of l.rest ≡ words_of l.line

abbrev pub decreases-loop-rest : goal.decreases-loop-rest
decreases-loop-rest l = length l.rest
