use Rattle.std.proofs.Common.{length}
use Rattle.rules_diagrams.proofs.word.+shifted_right.Given as goal

abbrev pub decreases-shifted_right : goal.decreases-shifted_right
decreases-shifted_right l = length l.bits.now
