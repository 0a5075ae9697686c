use Rattle.std.proofs.Common.{length}
use Rattle.rules_diagrams.proofs.word.+constant_of.Given as goal

abbrev pub decreases-constant_of : goal.decreases-constant_of
decreases-constant_of l = length l.bits.now
