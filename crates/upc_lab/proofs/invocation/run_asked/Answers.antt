-- The effect of `why`, `police`, `forward` and `differ`.
use Rattle.upc_lab.proofs.invocation.run_asked.Goals as goal

pub returns-in-Forward-clause-carried : goal.returns-in-Forward-clause-carried
returns-in-Forward-clause-carried g c = λ known written shown. rw c.in-Forward.is (c.forward_and_write_report.ensures.carried known written shown)

pub returns-in-Differ-clause-carried : goal.returns-in-Differ-clause-carried
returns-in-Differ-clause-carried g c = λ known written shown. rw c.in-Differ.is (c.compare_with_old_text.ensures.carried known written shown)

pub returns-in-Why-clause-carried : goal.returns-in-Why-clause-carried
returns-in-Why-clause-carried g c = λ known written shown. rw c.in-Why.is (record {
  ended = c.decide_cells-ended.result;
  status_is = c.report.ensures.status;
  served = c.decide_cells-ended.ensures.served;
  printed = c.decide_cells-ended.ensures.printed known written;
  reports = c.report.ensures.reported shown;
})

pub returns-in-Police-clause-carried : goal.returns-in-Police-clause-carried
returns-in-Police-clause-carried g c = λ known written shown. rw c.in-Police.is (record {
  ended = c.run_police-ended.result;
  status_is = c.report-in-Police.ensures.status;
  served = c.run_police-ended.ensures.served;
  printed = c.run_police-ended.ensures.policed known written;
  reports = c.report-in-Police.ensures.reported shown;
})
