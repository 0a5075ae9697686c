use Rattle.std.proofs.Common.{◌≡◌, ℕ, ◌+◌, ◌*◌, ◌%◌, ◌^◌, get_or, drop, sym, ◌∙◌, subst, arith}
use Rattle.std.proofs.lemmas.List.{at_drop_all, at_drop_more}
use Rattle.bpf_asm.specs.inner.LabelPlaces.{number_after, tail_number}
use Rattle.bpf_asm.proofs.labels.tail.Goals as goal

pub loop-octet-preserved : goal.loop-octet-preserved
unfolding number_after
loop-octet-preserved c =
    let name = c.args.name.now in
    let at = c.loop-octet.octet-index in
    let next : number_after (c.loop-octet.number % 2 ^ 56 * 256 + get_or name at 0) (drop (at + 1) name) ≡ tail_number name =
    sym (at_drop_more (number_after c.loop-octet.number) name at 0 (omega arith)) ∙ c.loop-octet.invariant in
    subst (λ (n : ℕ). number_after (c.loop-octet.number % 2 ^ 56 * 256 + n) (drop (at + 1) name) ≡ tail_number name) (sym c.from.ensures) next

pub returns : goal.returns
unfolding number_after
returns c = sym (at_drop_all (number_after c.loop-octet.number) c.args.name.now c.loop-octet.octet-index (omega arith)) ∙ c.loop-octet.invariant
