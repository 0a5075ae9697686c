-- The octets read are after the first ones.
use Rattle.std.proofs.Common.{length-take, arith}
use Rattle.text_io.proofs.Ranges.{taken-after}
use Rattle.text_io.proofs.filling.read_after.Goals as goal

pub returns-clause-octets : goal.returns-clause-octets
returns-clause-octets g c = λ known. taken-after _ _ _ _ _ _ _ (omega (arith, length-take c.args.end c.args.room.now)) c.in_ok-count.ensures.within (c.in_ok-count.ensures.octets known)
