use Rattle.rules_diagrams.proofs.CaseSteps.{same_decisions, same_values}
use Rattle.rules_diagrams.proofs.comparing.give_same.Goals as goal

pub returns-clause-rules : goal.returns-clause-rules
returns-clause-rules c = λ old new are. same_values c.the_first_rule_decides.ensures old new c.args.cases.now c.have_one_value.result c.have_one_value.ensures are

pub returns-clause-decisions : goal.returns-clause-decisions
returns-clause-decisions c = λ was is are. same_decisions was is c.args.cases.now c.have_one_value.result c.have_one_value.ensures are
