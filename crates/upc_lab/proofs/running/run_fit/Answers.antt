-- The rules are those that were read.
use Rattle.upc_lab.proofs.running.run_fit.Goals as goal

pub returns : goal.returns
returns g c =
    let served = c.fit_capture.ensures in
    let ruled = rw c.rules_asked.ensures at served in
    let here = rw c.as_slice.ensures.value at ruled in
    here
