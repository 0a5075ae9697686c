-- The script and the files of rules are those that were read, and nothing is read of the input.
use Rattle.std.proofs.Common.{refl}
use Rattle.upc_lab.proofs.invocation.explain_setup_script.Goals as goal

pub returns-clause-carried : goal.returns-clause-carried
returns-clause-carried g c = λ known written shown.
    let run = c.explain_setup-ended in
    let explained = run.ensures.explained written in
    let explained_scripted = rw c.as_slice.ensures.value at explained in
    let explained_here = rw c.as_slice-2.ensures.value at explained_scripted in
    let front = run.ensures.front written in
    let front_scripted = rw c.as_slice.ensures.value at front in
    let front_here = rw c.as_slice-2.ensures.value at front_scripted in
    record {
      ended = run.result;
      status_is = c.report.ensures.status;
      unread = refl;
      explained = explained_here;
      front = front_here;
      reports = c.report.ensures.reported shown;
    }
