use Rattle.bpf_asm.proofs.drafts.Sources.{line_fault}
use Rattle.bpf_asm.proofs.unresolved.Draft.take_line.Goals as goal

pub returns-in-Err-clause-fault : goal.returns-in-Err-clause-fault
returns-in-Err-clause-fault c = λ lines drafts. line_fault c.in-Err.kind lines c.args.line.now c.in-Err.ensures.fault
