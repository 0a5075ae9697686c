use Rattle.bpf_asm.specs.inner.LabelPlaces.{label_place}
use Rattle.bpf_asm.proofs.drafts.Agreement.{agrees_none}
use Rattle.bpf_asm.proofs.drafts.DraftSteps.{draft_empty}
use Rattle.bpf_asm.proofs.drafts.PendingSteps.{label_within}
use Rattle.std.proofs.Common.{[], arith}
use Rattle.bpf_asm.proofs.unresolved.Draft.new.Goals as goal

pub returns : goal.returns
returns c = record {
  agree = rw c.new.ensures.items (agrees_none (label_place c.new-3.result) c.new-3.ensures);
  pending = λ at d. let within = label_within [] at d.0 d.1 in absurd (omega arith);
  code = rw (c.new.ensures.items, c.new-2.ensures.items) draft_empty;
}
