-- The effect is that of the run, and of its hints or its message.
use Rattle.cmd_explain_rules.specs.HintComments.{text_of_comments}
use Rattle.upc_lab.proofs.Hinting.{reports_hints}
use Rattle.upc_lab.proofs.invocation.compile_and_write_hints.Goals as goal

pub returns-clause-carried : goal.returns-clause-carried
returns-clause-carried g c = λ known written shown.
    let run = c.compile_with_hints-ended in
    let ok = c.report_run.ensures.ok shown in
    let ok_here = rw c.text.ensures at ok in
    record {
      ended = run.result;
      status_is = c.report_run.ensures.status;
      served = run.ensures.served;
      printed = run.ensures.printed known written;
      reports = reports_hints _ (g.I.Input.rest c.args.input.now) g.E.Output c.args.errors.now c.report_run.new.errors run.result
          (text_of_comments run.new.comments) (run.ensures.hinted known) ok_here (c.report_run.ensures.failed shown);
    }
