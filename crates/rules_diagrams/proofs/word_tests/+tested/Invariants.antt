use Rattle.std.proofs.Common.{length}
use Rattle.rules_diagrams.proofs.word_tests.+tested.Given as goal

abbrev pub decreases-tested : goal.decreases-tested
decreases-tested l = length l.bits.now
