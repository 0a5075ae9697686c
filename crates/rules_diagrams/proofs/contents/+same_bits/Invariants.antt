use Rattle.std.proofs.Common.{length}
use Rattle.rules_diagrams.proofs.contents.+same_bits.Given as goal

abbrev pub decreases-same_bits : goal.decreases-same_bits
decreases-same_bits l = length l.one.now
