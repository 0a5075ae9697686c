-- A list with room takes the first cell.
use Rattle.std.proofs.Common.{◌<◌, List, length, subst}
use Rattle.cmd_fit.specs.Fits.{most_connections}
use Rattle.cmd_fit.specs.declared.flow_fit.FlowFit.{FlowFit}
use Rattle.cmd_fit.proofs.PlaceLemmas.{fits_after-first}
use Rattle.cmd_fit.proofs.flows.Flows.begin.Goals as goal

pub returns : goal.returns
returns c =
    let a = c.args in
    let few : length a.self.now < most_connections =
    subst (λ (fits : List FlowFit). length fits < most_connections) c.fits.ensures c.if-fits-ge-MOST_FLOWS.false in
    fits_after-first a.increment a.self.now a.flow a.moment a.number c.requires few c.first.result c.first.ensures c.add.new.self c.in_ok-add.ensures
