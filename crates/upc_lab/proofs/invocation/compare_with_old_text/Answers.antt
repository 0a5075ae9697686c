-- The effect is that of the comparison and of its message. The old text is the one that was read.
use Rattle.upc_lab.proofs.Differing.{finding_ends}
use Rattle.upc_lab.proofs.invocation.compare_with_old_text.Goals as goal

pub returns-clause-carried : goal.returns-clause-carried
returns-clause-carried g c = λ known written shown.
    let served = c.compare_texts-ended.ensures.served in
    let served_read = rw c.as_slice.ensures.value at served in
    let served_here = rw c.kinds_asked.ensures at served_read in
    let printed = c.compare_texts-ended.ensures.printed known written in
    let printed_read = rw c.as_slice.ensures.value at printed in
    let printed_here = rw c.kinds_asked.ensures at printed_read in
    record {
      ended = c.compare_texts-ended.result;
      status_is = c.report_finding.ensures.status;
      served = served_here;
      printed = printed_here;
      reports = c.report_finding.ensures.reported shown;
    }

pub returns-clause-status : goal.returns-clause-status
returns-clause-status g c = finding_ends c.report_finding.result (c.compare_texts-ended.result, c.report_finding.ensures.status)
