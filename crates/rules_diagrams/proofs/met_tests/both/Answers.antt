use Rattle.rules_diagrams.proofs.Telling.{both_tell}
use Rattle.rules_diagrams.proofs.met_tests.both.Goals as goal

pub returns-clause-tells : goal.returns-clause-tells
returns-clause-tells c = both_tell c.args.diagrams.now c.choose.new.self c.choose.ensures.keeps c.args.one c.args.other c.choose.result c.choose.ensures.chosen
