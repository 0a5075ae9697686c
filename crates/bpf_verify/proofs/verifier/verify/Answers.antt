use Rattle.std.proofs.Common.{true≢false, subst, sym}
use Rattle.bpf_verify.specs.Faults.{FailsFirst}
use Rattle.bpf_verify.proofs.FirstFault.{refused-from_fault}
use Rattle.bpf_verify.proofs.verifier.verify.Goals as goal

pub returns-in-Some-clause-accepted : goal.returns-in-Some-clause-accepted
returns-in-Some-clause-accepted c =
    let fails = subst (λ code. FailsFirst code c.in-Some.fault) c.deref.ensures.value c.in-Some.ensures.some in
    (λ is_ok. absurd (true≢false (sym is_ok)), λ accepted. absurd (refused-from_fault c.args.code.items c.in-Some.fault fails accepted))

pub returns-in-Some-clause-fault : goal.returns-in-Some-clause-fault
returns-in-Some-clause-fault c =
    subst (λ code. FailsFirst code c.in-Some.fault) c.deref.ensures.value c.in-Some.ensures.some
