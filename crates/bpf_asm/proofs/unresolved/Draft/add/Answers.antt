use Rattle.std.proofs.Common.{◌≡◌, ℕ, ◌+◌, [], ◌∷◌, ◌++◌, length, Option, None, Result, Ok, Err, OnOk, is_ok, sym, ap, ◌∙◌, subst, arith, length-append}
use Rattle.std.specs.Option.{option_map}
use Rattle.bpf_asm.specs.inner.Counts.{statement_count}
use Rattle.bpf_asm.specs.inner.Pending.{IsPending}
use Rattle.bpf_asm.specs.inner.LabelPlaces.{label_place}
use Rattle.bpf_asm.specs.inner.Seen.{line_seen, statement_seen}
use Rattle.bpf_asm.specs.inner.Drafts.{AgreesWith, drafted}
use Rattle.bpf_asm.proofs.drafts.DraftSteps.{draft_add, draft_skip}
use Rattle.bpf_asm.proofs.unresolved.Draft.add.Goals as goal

-- Two clauses of a call imply one about its mapped result.
on_ok_both : {A B E F : Type 0} (m : Result A E) (r : Result B F) (P Q R : Type 0) → is_ok m ≡ is_ok r → (P → Q → R) → OnOk r P → OnOk r Q → OnOk m R
on_ok_both (Err e) r P Q R same f p q = tt
on_ok_both (Ok v) (Err e) P Q R same f p q = cc
on_ok_both (Ok v) (Ok w) P Q R same f p q = f p q

pub returns-in-Ok-false-clause-fault : goal.returns-in-Ok-false-clause-fault
returns-in-Ok-false-clause-fault c = λ lines drafts. c.in-Ok-false.ensures.twice c.in-Ok-false.field-0-test lines (length c.args.self.now.code.items) drafts.agree

pub returns-in-None-clause-drafts : goal.returns-in-None-clause-drafts
returns-in-None-clause-drafts c = λ lines n drafts.
    let self = c.args.self.now in
    let line = line_seen c.args.lent in
    let none : line.statement ≡ None = ap (option_map statement_seen) c.in-None.is in
    let no_more : statement_count line.statement ≡ 0 = ap statement_count none in
    let same : length c.define.new.self.code.items ≡ length self.code.items = ap (λ v. length v.items) c.define.ensures.code in
    let count : length self.code.items + statement_count line.statement ≡ length c.define.new.self.code.items = omega arith in
    record {
      agree = subst (λ (m : ℕ). AgreesWith (lines ++ line ∷ []) (label_place c.define.new.self.labels) m) count (c.in-Ok-true.ensures.agree c.in-Ok-true.field-0-test lines drafts.agree);
      pending = c.pending_after-self.ensures lines n (subst (λ (p : Option ℕ). IsPending lines p) (sym c.define.ensures.dangling) drafts.pending);
      code = draft_skip lines line c.define.new.self.code.items c.define.new.self.unresolved.items none (rw (c.define.ensures.code, c.define.ensures.unresolved) drafts.code);
    }

pub returns-in-Some-clause-drafts : goal.returns-in-Some-clause-drafts
returns-in-Some-clause-drafts c =
    on_ok_both c.map_err.result c.put.result _ _ _ c.map_err.ensures.variant
    (λ code unresolved lines n drafts.
    let self = c.args.self.now in
    let line = line_seen c.args.lent in
    let some = ap (option_map statement_seen) c.in-Some.is in
    let one_more : statement_count line.statement ≡ 1 = ap statement_count some in
    let same : length c.define.new.self.code.items ≡ length self.code.items = ap (λ v. length v.items) c.define.ensures.code in
    let pushed = ap length code ∙ length-append c.define.new.self.code.items (drafted c.in-Some.statement ∷ []) in
    let count : length self.code.items + statement_count line.statement ≡ length c.put.new.self.code.items = omega arith in
    record {
      agree = rw c.put.ensures.labels (subst (λ (m : ℕ). AgreesWith (lines ++ line ∷ []) (label_place c.define.new.self.labels) m) count (c.in-Ok-true.ensures.agree c.in-Ok-true.field-0-test lines drafts.agree));
      pending = rw c.put.ensures.dangling (c.pending_after-self.ensures lines n (subst (λ (p : Option ℕ). IsPending lines p) (sym c.define.ensures.dangling) drafts.pending));
      code = draft_add lines line c.define.new.self.code.items c.put.new.self.code.items c.define.new.self.unresolved.items c.put.new.self.unresolved.items (c.args.at + 1) c.in-Some.statement some (ap (λ (k : ℕ). k + 1) (sym n)) code unresolved (rw (c.define.ensures.code, c.define.ensures.unresolved) drafts.code);
    })
    c.put.ensures.code c.put.ensures.unresolved
