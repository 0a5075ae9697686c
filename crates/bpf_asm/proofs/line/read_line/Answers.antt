use Rattle.std.proofs.Common.{sym, ◌∙◌}
use Rattle.bpf_asm.specs.inner.Seen.{line_seen}
use Rattle.bpf_asm.proofs.spellings.LineRead.{bad_line_is, bad_number_is, spelled_line}
use Rattle.bpf_asm.proofs.line.read_line.Goals as goal

pub returns-in-Some-clause-spelled : goal.returns-in-Some-clause-spelled
returns-in-Some-clause-spelled c = spelled_line c.args.line.now (line_seen c.in-Some.lent) c.in-Some.ensures

pub returns-in-None-clause-fault : goal.returns-in-None-clause-fault
returns-in-None-clause-fault c = λ before.
    bad_number_is c.args.line.now before (sym c.bad_number.ensures ∙ c.if-bad_number.true)

pub returns-in-None-2-clause-fault : goal.returns-in-None-2-clause-fault
returns-in-None-2-clause-fault c = λ before.
    bad_line_is c.args.line.now before (sym c.bad_number.ensures ∙ c.if-bad_number.false) c.in-None-2.ensures
