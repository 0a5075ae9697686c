use Rattle.rules_diagrams.proofs.Telling.{reached_none}
use Rattle.rules_diagrams.proofs.met_tests.reached.Goals as goal

pub returns-in-None-clause-tells : goal.returns-in-None-clause-tells
returns-in-None-clause-tells c =
    reached_none c.span.new.self c.args.side c.args.field c.bits_of-bits.result c.args.reach c.bits_of-bits.ensures c.args.mask c.span.result c.in-None.is c.span.ensures.span
