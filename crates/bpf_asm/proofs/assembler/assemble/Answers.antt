use Rattle.std.proofs.Common.{rules, ◌⊎◌, ℕ, Option, inl, subst}
use Rattle.bpf_asm.specs.Faults.{IsFault, IsFirstOperandFault, IsOutOfMemory}
use Rattle.bpf_asm.specs.Labels.{statements_of}
use Rattle.bpf_asm.specs.Meaning.{IsMeaning, MeanFrom}
use Rattle.bpf_asm.specs.inner.Pending.{IsPending}
use Rattle.bpf_asm.specs.declared.fault.AsmFault.{AsmFault}
use Rattle.bpf_asm.proofs.drafts.Agreement.{if_ok}
use Rattle.bpf_asm.proofs.drafts.Assembled.{dangling_source, if_err, means_source, operand_source}
use Rattle.bpf_asm.proofs.drafts.Refusals.{memory_alone, never_accepted, refused_alone}
use Rattle.bpf_asm.proofs.assembler.assemble.Goals as goal

pub returns-in-Some-clause-fault : goal.returns-in-Some-clause-fault
returns-in-Some-clause-fault c =
    let draft = c.in_ok-draft.ensures.draft in
    inl (dangling_source c.args.source.now draft.lines c.in-Some.at c.fault_at.result draft.spelled draft.drafts.agree.once (subst (λ (p : Option ℕ). IsPending draft.lines p) c.in-Some.is draft.drafts.pending) c.fault_at.ensures)

pub returns-clause-code : goal.returns-clause-code
returns-clause-code c =
    let draft = c.in_ok-draft.ensures.draft in
    let none = subst (λ (p : Option ℕ). IsPending draft.lines p) c.in_default.is draft.drafts.pending in
    if_ok c.resolve_all.result (λ code. MeanFrom draft.lines 0 (statements_of draft.lines) code.items) (λ code. IsMeaning c.args.source.now code.items)
    (λ code meant. means_source c.args.source.now draft.lines code.items draft.spelled draft.drafts.agree.once none meant)
    (c.resolve_all.ensures.code draft.lines draft.drafts)

pub returns-clause-fault : goal.returns-clause-fault
returns-clause-fault c =
    let draft = c.in_ok-draft.ensures.draft in
    let none = subst (λ (p : Option ℕ). IsPending draft.lines p) c.in_default.is draft.drafts.pending in
    if_err c.resolve_all.result (λ (fault : AsmFault). IsFirstOperandFault draft.lines fault) (λ (fault : AsmFault). IsFault c.args.source.now fault ⊎ IsOutOfMemory fault)
    (λ fault f. operand_source c.args.source.now draft.lines fault draft.spelled draft.drafts.agree.once none (inl f))
    (c.resolve_all.ensures.fault draft.lines draft.drafts)

pub returns-in_err-draft-clause-means : goal.returns-in_err-draft-clause-means
returns-in_err-draft-clause-means c = refused_alone c.from_residual.result c.args.source.now (search rules)

pub returns-in-Some-clause-means : goal.returns-in-Some-clause-means
returns-in-Some-clause-means c = memory_alone c.args.source.now c.fault_at.result (returns-in-Some-clause-fault c)

pub returns-clause-means : goal.returns-clause-means
returns-clause-means c = refused_alone c.resolve_all.result c.args.source.now (returns-clause-fault c)

pub returns-clause-faulty : goal.returns-clause-faulty
returns-clause-faulty c = never_accepted c.resolve_all.result (λ code. code.items) c.args.source.now (returns-clause-code c)
