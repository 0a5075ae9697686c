use Rattle.std.proofs.Common.{arith}
use Rattle.cmd_police.proofs.compiling.digits_of.Goals as goal

pub returns-clause-octets : goal.returns-clause-octets
returns-clause-octets c = λ i. omega (arith, c.type_inv.octets i)
