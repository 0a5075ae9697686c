use Rattle.std.proofs.Common.{◌≡◌, ℕ, ◌+◌, List, [], ◌∷◌, ◌++◌, length, Bool, IsTrue, false, Some, if◌then◌else◌, sym, ap, ◌∙◌, subst}
use Rattle.std.specs.Option.{is_none, option_copied}
use Rattle.std.specs.Str.{bytes_eq}
use Rattle.bpf_asm.specs.Grammar.{SourceLine}
use Rattle.bpf_asm.specs.inner.Counts.{statement_count}
use Rattle.bpf_asm.specs.inner.LabelPlaces.{label_place}
use Rattle.bpf_asm.specs.inner.Seen.{line_seen}
use Rattle.bpf_asm.specs.inner.Drafts.{AgreesWith, IsTwice}
use Rattle.bpf_asm.proofs.drafts.Agreement.{agrees_label, agrees_plain, if_ok, if_ok_both, none_is, twice_is}
use Rattle.bpf_asm.proofs.unresolved.Draft.define.Goals as goal

pub returns-in-Some-clause-twice : goal.returns-in-Some-clause-twice
returns-in-Some-clause-twice c =
    let self = c.args.self.now in
    let label = c.in-Some.label.now in
    if_ok c.define.result (λ (fresh : Bool). fresh ≡ is_none (label_place self.labels label))
    (λ (fresh : Bool). fresh ≡ false → (lines : List SourceLine) (count : ℕ) → AgreesWith lines (label_place self.labels) count → IsTwice lines (line_seen c.args.lent))
    (λ fresh f no lines count agree. twice_is lines (line_seen c.args.lent) label (label_place self.labels) count (ap option_copied c.in-Some.is) (sym f ∙ no) agree)
    c.define.ensures.fresh

pub returns-in-Some-clause-agree : goal.returns-in-Some-clause-agree
returns-in-Some-clause-agree c =
    let self = c.args.self.now in
    let label = c.in-Some.label.now in
    let line = line_seen c.args.lent in
    let next : c.len.result ≡ length self.code.items = c.len.ensures ∙ self.code.ok.0 in
    if_ok_both c.define.result (λ (fresh : Bool). fresh ≡ is_none (label_place self.labels label))
    (λ (fresh : Bool). (other : List ℕ) → label_place c.define.new.self other ≡ (if bytes_eq label other then Some c.len.result else label_place self.labels other))
    (λ (fresh : Bool). IsTrue fresh → (lines : List SourceLine) → AgreesWith lines (label_place self.labels) (length self.code.items) → AgreesWith (lines ++ line ∷ []) (label_place c.define.new.self) (length self.code.items + statement_count line.statement))
    (λ fresh f put yes lines agree.
    subst (λ (n : ℕ). AgreesWith (lines ++ line ∷ []) (label_place c.define.new.self) (n + statement_count line.statement)) next
    (agrees_label lines line label (label_place self.labels) (label_place c.define.new.self) c.len.result (ap option_copied c.in-Some.is) (none_is (label_place self.labels label) (sym f ∙ yes)) put
    (subst (λ (n : ℕ). AgreesWith lines (label_place self.labels) n) (sym next) agree)))
    c.define.ensures.fresh c.define.ensures.places

pub returns-in-None-clause-agree : goal.returns-in-None-clause-agree
returns-in-None-clause-agree c = λ yes lines agree.
    let self = c.args.self.now in
    agrees_plain lines (line_seen c.args.lent) (label_place self.labels) (length self.code.items) (ap option_copied c.in-None.is) agree
