use Rattle.rules_code.specs.inner.Coding.{coded_of}
use Rattle.rules_code.proofs.Coding.{begun_lines}
use Rattle.rules_code.proofs.lines.whole_code.Goals as goal

pub returns-clause-code : goal.returns-clause-code
returns-clause-code c = begun_lines c.args.lines.now c.args.otherwise (coded_of c.in_ok-placed.placed.coding) c.in_ok-code.code.items c.in_ok-placed.ensures.code c.in_ok-code.ensures
