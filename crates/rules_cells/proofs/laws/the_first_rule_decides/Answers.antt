use Rattle.rules_cells.proofs.DecisionSteps.{first_decides}
use Rattle.rules_cells.proofs.laws.the_first_rule_decides.Goals as goal

pub returns : goal.returns
returns c = first_decides
