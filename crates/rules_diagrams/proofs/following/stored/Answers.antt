use Rattle.std.proofs.Common.{arith}
use Rattle.rules_diagrams.proofs.ScratchSteps.{stored_follows}
use Rattle.rules_diagrams.proofs.following.stored.Goals as goal

pub returns : goal.returns
returns c = λ i does. stored_follows i c.args.place c.args.contents.now c.args.k c.args.word (omega arith) does
