-- The script and the files of rules are those that were read.
use Rattle.upc_lab.proofs.running.run_police.Goals as goal

pub returns-clause-served : goal.returns-clause-served
returns-clause-served g c =
    let served = c.police_as_agreed.ensures.served in
    let scripted = rw c.as_slice.ensures.value at served in
    let ruled = rw c.as_slice-2.ensures.value at scripted in
    let here = rw c.scope_asked.ensures at ruled in
    here

pub returns-clause-policed : goal.returns-clause-policed
returns-clause-policed g c = λ known written.
    let policed = c.police_as_agreed.ensures.policed known written in
    let scripted = rw c.as_slice.ensures.value at policed in
    let ruled = rw c.as_slice-2.ensures.value at scripted in
    let here = rw c.scope_asked.ensures at ruled in
    here
