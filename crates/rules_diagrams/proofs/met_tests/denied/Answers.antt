use Rattle.rules_diagrams.proofs.Telling.{denied_tells}
use Rattle.rules_diagrams.proofs.met_tests.denied.Goals as goal

pub returns-clause-tells : goal.returns-clause-tells
returns-clause-tells c = denied_tells c.args.diagrams.now c.choose.new.self c.choose.ensures.keeps c.args.test c.choose.result c.choose.ensures.chosen
