use Rattle.std.proofs.Common.{ℕ, Bool, cond, Some, ap, ◌∙◌}
use Rattle.std.specs.Ordering.{is_eq}
use Rattle.bpf_asm.specs.inner.LabelPlaces.{compared, label_place, tail_number}
use Rattle.bpf_asm.proofs.drafts.LabelKeys.{compared_is}
use Rattle.bpf_asm.proofs.labels.Labels.define.Goals as goal

pub returns-clause-places : goal.returns-clause-places
returns-clause-places c = λ other.
    c.in_ok-before.ensures.updates.0 (tail_number other, record { ref_ptr = (0, 0); now = other })
    ∙ ap (λ (n : ℕ). cond (is_eq (compared n c.args.name.now (tail_number other) other)) (Some c.args.place) (label_place c.args.self.now other)) c.tail.ensures
    ∙ ap (λ (t : Bool). cond t (Some c.args.place) (label_place c.args.self.now other)) (compared_is c.args.name.now other)
