use Rattle.rules_diagrams.proofs.Telling.{either_tells}
use Rattle.rules_diagrams.proofs.met_tests.either.Goals as goal

pub returns-clause-tells : goal.returns-clause-tells
returns-clause-tells c = either_tells c.args.diagrams.now c.choose.new.self c.choose.ensures.keeps c.args.one c.args.other c.choose.result c.choose.ensures.chosen
