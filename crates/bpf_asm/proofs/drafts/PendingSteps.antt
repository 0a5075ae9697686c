-- Labels that no instruction follows, line by line.
use Rattle.std.proofs.Common.{◌≡◌, ◌⊎◌, ℕ, zero, suc, ◌<◌, ◌≤◌, List, [], ◌∷◌, ◌++◌, length, drop, Option, Some, None, refl, sym, ap, ◌∙◌, subst, inl, inr, arith, append-nil, length-append}
use Rattle.std.proofs.lemmas.List.{drop_all, drop-append-le}
use Rattle.bpf_asm.specs.Grammar.{SourceLine}
use Rattle.bpf_asm.specs.Labels.{HasLabel, IsDangling, statements_of}
use Rattle.bpf_asm.specs.inner.Pending.{IsPending}
use Rattle.bpf_asm.specs.StatementSpelling.{Statement}
use Rattle.bpf_asm.proofs.drafts.Agreement.{statements_one, label_kept, label_split, statements_of-append}

-- A line with a label is within the lines.
pub label_within : (lines : List SourceLine) (at : ℕ) (name : List ℕ) → HasLabel lines at name → at < length lines
label_within [] at name h = cc
label_within (line ∷ lines) zero name h = omega arith
label_within (line ∷ lines) (suc at) name h = let w = label_within lines at name h in omega arith

no_more : (lines : List SourceLine) (line : SourceLine) (s : Statement) → line.statement ≡ Some s → statements_of (lines ++ line ∷ []) ≡ [] → ⊥
no_more lines line s e n =
    let c : length (statements_of (line ∷ [])) ≡ 1 = statements_one line (Some s) e in
    let whole : length (statements_of lines ++ statements_of (line ∷ [])) ≡ 0 = ap length (sym (statements_of-append lines (line ∷ [])) ∙ n) in
    let sum = length-append (statements_of lines) (statements_of (line ∷ [])) in
    omega arith

-- After an instruction no label is pending.
pub pending_none : (lines : List SourceLine) (line : SourceLine) (s : Statement) → line.statement ≡ Some s → IsPending (lines ++ line ∷ []) None
pending_none lines line s e at d =
    let within = label_within (lines ++ line ∷ []) at d.0 d.1 in
    let short : at ≤ length lines = omega (arith, length-append lines (line ∷ []), within) in
    let cut : statements_of (drop at lines ++ line ∷ []) ≡ [] = ap statements_of (sym (drop-append-le at lines (line ∷ []) short)) ∙ d.2 in
    no_more (drop at lines) line s e cut

none_of : (line : SourceLine) → line.statement ≡ None → statements_of (line ∷ []) ≡ []
unfolding statements_of
none_of line e = rw e refl

nothing_left : (lines : List SourceLine) → statements_of (drop (length lines) lines) ≡ []
unfolding statements_of
nothing_left lines = ap statements_of (drop_all (length lines) lines (omega arith))

no_label : (name : List ℕ) → Some name ≡ None → ⊥
no_label name e = cc

drop_empty : (lines : List SourceLine) (line : SourceLine) (at : ℕ) → at ≤ length lines → line.statement ≡ None → statements_of (drop at (lines ++ line ∷ [])) ≡ statements_of (drop at lines)
drop_empty lines line at h e =
    ap statements_of (drop-append-le at lines (line ∷ []) h) ∙ statements_of-append (drop at lines) (line ∷ []) ∙ ap (λ (ss : List Statement). statements_of (drop at lines) ++ ss) (none_of line e) ∙ append-nil (statements_of (drop at lines))

-- A pending label remains pending without an instruction.
dangling_kept : (lines : List SourceLine) (line : SourceLine) (at : ℕ) → line.statement ≡ None → IsDangling lines at → IsDangling (lines ++ line ∷ []) at
dangling_kept lines line at e d =
    let within = label_within lines at d.0 d.1 in
    (d.0, label_kept lines (line ∷ []) at d.0 d.1, drop_empty lines line at (omega arith) e ∙ d.2)

-- A pending label was pending before, or is that of the last line.
dangling_split : (lines : List SourceLine) (line : SourceLine) (at : ℕ) → line.statement ≡ None → IsDangling (lines ++ line ∷ []) at → IsDangling lines at ⊎ ((at ≡ length lines) × ((name : List ℕ) × (line.label ≡ Some name)))
dangling_split lines line at e d =
    elim (label_split lines line at d.0 d.1) [
      | inl f ↦ let within = label_within lines at d.0 f in inl (d.0, f, sym (drop_empty lines line at (omega arith) e) ∙ d.2)
      | inr l ↦ inr (l.0, (d.0, l.1))
    ]

-- The first pending label remains the first.
pub pending_kept : (lines : List SourceLine) (line : SourceLine) (first : ℕ) → line.statement ≡ None → IsPending lines (Some first) → IsPending (lines ++ line ∷ []) (Some first)
pending_kept lines line first e p = (
  omega (arith, length-append lines (line ∷ []), p.0),
  dangling_kept lines line first e p.1,
  λ earlier h d. elim (dangling_split lines line earlier e d) [ inl f ↦ p.2 earlier h f | inr l ↦ let within = p.0 in let same = l.0 in absurd (omega arith) ],
)

last_label : (lines : List SourceLine) (line : SourceLine) (name : List ℕ) → line.label ≡ Some name → HasLabel (lines ++ line ∷ []) (length lines) name
last_label [] line name e = (line, refl, e)
last_label (first ∷ lines) line name e = last_label lines line name e

-- The label of the last line is pending.
pub pending_new : (lines : List SourceLine) (line : SourceLine) (name : List ℕ) → line.label ≡ Some name → line.statement ≡ None → IsPending lines None → IsPending (lines ++ line ∷ []) (Some (length lines))
pending_new lines line name l e p = (
  omega (arith, length-append lines (line ∷ [])),
  (name, last_label lines line name l, drop_empty lines line (length lines) (omega arith) e ∙ nothing_left lines),
  λ earlier h d. elim (dangling_split lines line earlier e d) [ inl f ↦ p earlier f | inr m ↦ let same = m.0 in absurd (omega arith) ],
)

-- Without a label none is pending.
pub pending_plain : (lines : List SourceLine) (line : SourceLine) → line.label ≡ None → line.statement ≡ None → IsPending lines None → IsPending (lines ++ line ∷ []) None
pending_plain lines line l e p at d =
    elim (dangling_split lines line at e d) [ inl f ↦ p at f | inr m ↦ no_label m.1.0 (sym m.1.1 ∙ l) ]

-- The same for an equal value.
pub pending_at : (lines : List SourceLine) (one other : Option ℕ) → one ≡ other → IsPending lines one → IsPending lines other
pending_at lines one other e p = subst (λ (o : Option ℕ). IsPending lines o) e p
