use Rattle.std.proofs.Common.{arith}
use Rattle.rules_diagrams.proofs.WordSteps.{half_below}
use Rattle.rules_diagrams.proofs.word.+constant.Goals as goal

pub constant-requires : goal.constant-requires
constant-requires t c = (omega arith, half_below c.args.k c.args.width (omega arith) c.requires)
