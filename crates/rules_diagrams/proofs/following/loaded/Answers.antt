use Rattle.std.proofs.Common.{arith}
use Rattle.rules_diagrams.proofs.FollowSteps.{some_loaded_of}
use Rattle.rules_diagrams.proofs.following.loaded.Goals as goal

pub returns : goal.returns
returns c = λ cell there.
    some_loaded_of cell c.args.at c.octets_of-many.result _ _ c.args.size c.in_ok-bits.bits.items there (omega (arith, c.octets_of-many.ensures.most)) (omega arith) (omega arith) c.octets_of-many.ensures.many c.in_ok-bits.ensures
