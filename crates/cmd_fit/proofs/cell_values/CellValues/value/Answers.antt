use Rattle.std.proofs.Common.{◌<◌, ◌^◌, rules}
use Rattle.cmd_fit.proofs.ValueLemmas.{value_decided}
use Rattle.cmd_fit.proofs.cell_values.CellValues.value.Goals as goal

pub returns-in-None : goal.returns-in-None
returns-in-None c =
    let small : c.decide.result.value < 2 ^ 32 = search rules in
    value_decided c.args.self.now.rules c.args.cell.now c.decide.result small c.decide.ensures
