-- The effect of each subcommand is that of its run and of what is reported of it.
use Rattle.upc_lab.proofs.Differing.{finding_ends}
use Rattle.upc_lab.proofs.invocation.run_without_options.Goals as goal

pub returns-in-Rules-clause-carried : goal.returns-in-Rules-clause-carried
returns-in-Rules-clause-carried g c = λ known written shown. rw c.in-Rules.is (c.compile_and_write_hints.ensures.carried known written shown)

pub returns-in-Unused-clause-carried : goal.returns-in-Unused-clause-carried
returns-in-Unused-clause-carried g c = λ known written shown. rw c.in-Unused.is (record {
  ended = c.unused_in_text.result;
  status_is = c.report_finding.ensures.status;
  served = c.unused_in_text.ensures.served;
  printed = c.unused_in_text.ensures.printed known written;
  reports = c.report_finding.ensures.reported shown;
})

pub returns-in-Asm-clause-carried : goal.returns-in-Asm-clause-carried
returns-in-Asm-clause-carried g c = λ known written shown. rw c.in-Asm.is (record {
  ended = c.assemble_rules.result;
  status_is = c.report.ensures.status;
  served = c.assemble_rules.ensures.served;
  printed = c.assemble_rules.ensures.printed known written;
  reports = c.report.ensures.reported shown;
})

pub returns-in-Unused-clause-status : goal.returns-in-Unused-clause-status
returns-in-Unused-clause-status g c = finding_ends c.report_finding.result (c.unused_in_text.result, c.report_finding.ensures.status)
