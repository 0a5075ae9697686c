use Rattle.std.proofs.Common.{◌≡◌, ◌-◌, ◌∷◌, length, ◌∙◌, sym, ap}
use Rattle.bpf_code.specs.declared.instr.Instr.TheVariants.{Jump}
use Rattle.rules_code.specs.inner.Coding.{coded_of}
use Rattle.rules_code.proofs.Coding.{begun_same, begun_other}
use Rattle.rules_code.proofs.lines.with_entry_jump.Goals as goal

pub returns-then-entry-count : goal.returns-then-entry-count
returns-then-entry-count c =
    begun_same (coded_of c.args.coding) c.into_code.result.items (c.if-entry-count.true ∙ c.len-count.ensures.count) c.into_code.ensures

pub returns : goal.returns
returns c =
    let away : c.saturating_sub.result ≡ length c.args.coding.draft - c.args.coding.entry = c.saturating_sub.ensures ∙ ap (λ n. n - c.args.coding.entry) c.len-count.ensures.count in
    begun_other (coded_of c.args.coding) c.into_code-2.result.items (λ same. absurd (c.if-entry-count.false (same ∙ sym c.len-count.ensures.count)))
    (c.into_code-2.ensures ∙ (c.in_ok-put.ensures ∙ ap (λ n. Jump n ∷ c.args.coding.draft) away))
