-- The effect is that of the run, and of its report or its message.
use Rattle.upc_lab.specs.LabEffects.{ForwardsAsked}
use Rattle.upc_lab.proofs.Forwarding.{reports_run}
use Rattle.upc_lab.proofs.invocation.forward_and_write_report.Goals as goal

pub returns-clause-carried : goal.returns-clause-carried
returns-clause-carried g c = λ known written shown.
    let run = c.forward_as_agreed-ended in
    let served = run.ensures.served in
    let served_scripted = rw c.as_slice.ensures.value at served in
    let served_ruled = rw c.as_slice-2.ensures.value at served_scripted in
    let served_here = rw c.others_asked.ensures at served_ruled in
    let reported = run.ensures.reported known written in
    let reported_scripted = rw c.as_slice.ensures.value at reported in
    let reported_ruled = rw c.as_slice-2.ensures.value at reported_scripted in
    let reported_here = rw c.others_asked.ensures at reported_ruled in
    let ok = c.report_run.ensures.ok shown in
    let ok_here = rw c.deref.ensures.value at ok in
    record {
      ended = run.result;
      status_is = c.report_run.ensures.status;
      served = served_here;
      reports = reports_run _ (ForwardsAsked c.args.files.now c.args.options.now) g.I.Input c.args.input.now g.O.Output c.args.output.now run.new.output g.E.Output c.args.errors.now c.report_run.new.errors
          run.result c.new-said.result.items run.new.report.items c.new-said.ensures.items reported_here ok_here (c.report_run.ensures.failed shown);
    }
