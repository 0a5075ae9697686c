use Rattle.rules_diagrams.proofs.CellBits.{zero_clear, zero_number}
use Rattle.rules_diagrams.proofs.walk.zero_cell.Goals as goal

pub returns-clause-clear : goal.returns-clause-clear
returns-clause-clear c = zero_clear c.from.result c.from.ensures

pub returns-clause-number : goal.returns-clause-number
returns-clause-number c = zero_number c.from.result c.from.ensures
