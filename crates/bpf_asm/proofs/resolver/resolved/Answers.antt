use Rattle.std.proofs.Common.{refl, ap}
use Rattle.std.specs.Option.{option_copied}
use Rattle.bpf_asm.specs.inner.Seen.{statement_seen}
use Rattle.bpf_asm.proofs.drafts.Resolving.{first_side, jump_fault, second_side}
use Rattle.bpf_asm.proofs.resolver.resolved.Goals as goal

pub returns-in-Ok-clause-ok : goal.returns-in-Ok-clause-ok
returns-in-Ok-clause-ok c = λ lines count agree. rw (ap statement_seen c.in-Jump.is) (c.in-Ok.offset, refl, c.in-Ok.ensures.ok lines count agree)

pub returns-in-Err-clause-fault : goal.returns-in-Err-clause-fault
returns-in-Err-clause-fault c = λ lines count agree.
    rw (ap statement_seen c.in-Jump.is) (jump_fault lines c.args.place c.in-Jump.label.now c.in-Err.kind (c.in-Err.ensures.fault lines count agree))

pub returns-in-Err-side-clause-fault : goal.returns-in-Err-side-clause-fault
returns-in-Err-side-clause-fault c = λ lines count agree.
    rw (ap statement_seen c.in-Branch.is) (first_side lines c.args.place c.in-Branch.test c.in-Branch.by (option_copied c.in-Branch.met) (option_copied c.in-Branch.unmet) c.in-Err-side.kind (c.in-Err-side.ensures.fault lines count agree))

pub returns-in-Err-side-2-clause-fault : goal.returns-in-Err-side-2-clause-fault
returns-in-Err-side-2-clause-fault c = λ lines count agree.
    rw (ap statement_seen c.in-Branch.is) (second_side lines c.args.place c.in-Branch.test c.in-Branch.by (option_copied c.in-Branch.met) (option_copied c.in-Branch.unmet) c.in-Ok-side.jt c.in-Err-side-2.kind (c.in-Ok-side.ensures.ok lines count agree) (c.in-Err-side-2.ensures.fault lines count agree))
