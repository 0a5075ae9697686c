use Rattle.cmd_fit.proofs.OrderLemmas.{lines-of-flows}
use Rattle.cmd_fit.proofs.laws.lines_are_of_flows.Goals as goal

pub returns : goal.returns
returns c = lines-of-flows
