use Rattle.std.proofs.Common.{refl, arith}
use Rattle.bpf_asm.proofs.drafts.ResolvedTo.{next_at, next_at_within, next_fault, next_resolved, resolved_all}
use Rattle.std.proofs.lemmas.List.{drop_all}
use Rattle.bpf_asm.proofs.resolver.resolve_all.Goals as goal

pub index_mut-requires : goal.index_mut-requires
index_mut-requires c =
    next_at_within c.requires.0 c.loop-jump.code.items c.deref-jump-items.result.now c.loop-jump.jump-index _ c.loop-jump.code.len (omega arith) c.loop-jump.code.ok.0 (c.loop-jump.invariant c.requires.0 c.requires.1)

pub returns-in-Err-clause-fault : goal.returns-in-Err-clause-fault
returns-in-Err-clause-fault c = λ lines drafts.
    let next = next_at lines c.loop-jump.code.items c.deref-jump-items.result.now c.loop-jump.jump-index _ (omega arith) (c.loop-jump.invariant lines drafts) in
    next_fault lines c.loop-jump.code.items _ _ c.in-Err.kind _ refl refl (c.in-Err.ensures.fault lines _ drafts.agree) next

pub loop-jump-preserved : goal.loop-jump-preserved
loop-jump-preserved c = λ lines drafts.
    let next = next_at lines c.loop-jump.code.items c.deref-jump-items.result.now c.loop-jump.jump-index _ (omega arith) (c.loop-jump.invariant lines drafts) in
    next_resolved lines c.loop-jump.code.items _ _ c.in-Ok.instr (c.in-Ok.ensures.ok lines _ drafts.agree) next

pub returns-clause-code : goal.returns-clause-code
returns-clause-code c = λ lines drafts.
    resolved_all lines c.loop-jump.code.items _ (drop_all c.loop-jump.jump-index c.deref-jump-items.result.now (omega arith)) (c.loop-jump.invariant lines drafts)
