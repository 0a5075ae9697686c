use Rattle.std.proofs.Common.{length}
use Rattle.rules_diagrams.proofs.word_results.+bitwise.Given as goal

abbrev pub decreases-bitwise : goal.decreases-bitwise
decreases-bitwise l = length l.one.now
