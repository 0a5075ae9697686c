-- The octets read are the first of the room.
use Rattle.text_io.proofs.Ranges.{taken-front}
use Rattle.text_io.proofs.filling.read_some.Goals as goal

pub returns-clause-octets : goal.returns-clause-octets
returns-clause-octets g c = λ known. taken-front _ _ _ _ _ c.in_ok-count.ensures.within (c.in_ok-count.ensures.octets known)
