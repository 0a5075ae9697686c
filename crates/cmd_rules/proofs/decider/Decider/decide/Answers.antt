use Rattle.std.proofs.Common.{◌∙◌}
use Rattle.rules_text.proofs.Public.{decision_same}
use Rattle.cmd_rules.proofs.decider.Decider.decide.Goals as goal

pub returns-in-None : goal.returns-in-None
returns-in-None c = c.decide.ensures ∙ decision_same c.args.self.now.placed_rules.rules c.args.cell.now
