-- A source has at most one fault.
use Rattle.std.proofs.Common.{◌≡◌, ◌⊎◌, ℕ, ◌+◌, ◌<◌, List, [], ◌∷◌, ◌++◌, length, Some, refl, sym, ap, ◌∙◌, subst, inl, inr, arith}
use Rattle.bpf_asm.specs.Faults.{HasOffsets, HaveOffsets, IsFault, IsFirstDangling, IsFirstLineFault, IsFirstOperandFault, IsLabelFault, IsLineFault, IsOperandFault, IsStatementFault}
use Rattle.bpf_asm.specs.Grammar.{SourceLine}
use Rattle.bpf_asm.specs.Labels.{EachLabelOnce, IsDangling, Operand, operands_of, statements_of}
use Rattle.bpf_asm.specs.SourceLines.{source_lines}
use Rattle.bpf_asm.specs.StatementSpelling.{Statement}
use Rattle.bpf_asm.specs.declared.fault.AsmFault.{AsmFault}
use Rattle.bpf_asm.specs.declared.fault.AsmKind.{AsmKind}
use Rattle.bpf_asm.specs.declared.fault.AsmKind.TheVariants.{BadLine, BadNumber, LabelTwice, UnknownLabel, Backward, TooFar, DanglingLabel, NoMemory}
use Rattle.bpf_asm.proofs.drafts.Agreement.{holds_has, statements_of-append}
use Rattle.bpf_asm.proofs.meanings.NeverBoth.{line_never, line_numbers, offset_in, operand_never, parts_of, some_here}
use Rattle.bpf_asm.proofs.meanings.OneMeaning.{lines_once, holds_once}

-- Two places in a list are the same, or one is before the other.
InFront : {A : Type 0} → List A → A → List A → Type 0
InFront {A} one x other = (more : List A) × (other ≡ one ++ x ∷ more)

two_places : {A : Type 0} (one : List A) (x : A) (back : List A) (other : List A) (y : A) (rest : List A) → one ++ x ∷ back ≡ other ++ y ∷ rest → ((one ≡ other) × (x ≡ y)) ⊎ (InFront one x other ⊎ InFront other y one)
unfolding InFront
two_places [] x back [] y rest e = inl (refl, cc)
two_places [] x back (z ∷ other) y rest e = let same : x ≡ z = cc in inr (inl (other, ap (λ w. w ∷ other) (sym same)))
two_places (z ∷ one) x back [] y rest e = let same : z ≡ y = cc in inr (inr (one, ap (λ w. w ∷ one) same))
two_places {A} (z ∷ one) x back (w ∷ other) y rest e =
    let head : z ≡ w = cc in
    let tail : one ++ x ∷ back ≡ other ++ y ∷ rest = cc in
    elim (two_places one x back other y rest tail) [
      | inl s ↦ inl (ap (λ v. v ∷ one) head ∙ ap (λ vs. w ∷ vs) s.0, s.1)
      | inr f ↦ elim f [
        | inl g ↦ inr (inl (g.0, ap (λ vs. w ∷ vs) g.1 ∙ ap (λ v. v ∷ (one ++ x ∷ g.0)) (sym head)))
        | inr g ↦ inr (inr (g.0, ap (λ vs. z ∷ vs) g.1 ∙ ap (λ v. v ∷ (other ++ y ∷ g.0)) head))
      ]
    ]

same_fault : (one other : AsmFault) → one.line ≡ other.line → one.kind ≡ other.kind → one ≡ other
same_fault one other l k =
    let first : one ≡ record { line = other.line; kind = one.kind } = ap (λ (n : ℕ). record { line = n; kind = one.kind }) l in
    first ∙ ap (λ (j : AsmKind). record { line = other.line; kind = j }) k

kind_once : (lines : List SourceLine) (here : List ℕ) (one other : AsmKind) → IsLineFault lines here one → IsLineFault lines here other → one ≡ other
kind_once lines here BadLine BadLine f g = refl
kind_once lines here BadLine BadNumber f g = absurd (f.0 g)
kind_once lines here BadLine LabelTwice f g = absurd (f.1 g.0 g.1)
kind_once lines here BadLine UnknownLabel f g = absurd g
kind_once lines here BadLine Backward f g = absurd g
kind_once lines here BadLine TooFar f g = absurd g
kind_once lines here BadLine DanglingLabel f g = absurd g
kind_once lines here BadLine NoMemory f g = absurd g
kind_once lines here BadNumber BadLine f g = absurd (g.0 f)
kind_once lines here BadNumber BadNumber f g = refl
kind_once lines here BadNumber LabelTwice f g = absurd (line_numbers here g.0 g.1 f)
kind_once lines here BadNumber UnknownLabel f g = absurd g
kind_once lines here BadNumber Backward f g = absurd g
kind_once lines here BadNumber TooFar f g = absurd g
kind_once lines here BadNumber DanglingLabel f g = absurd g
kind_once lines here BadNumber NoMemory f g = absurd g
kind_once lines here LabelTwice BadLine f g = absurd (g.1 f.0 f.1)
kind_once lines here LabelTwice BadNumber f g = absurd (line_numbers here f.0 f.1 g)
kind_once lines here LabelTwice LabelTwice f g = refl
kind_once lines here LabelTwice UnknownLabel f g = absurd g
kind_once lines here LabelTwice Backward f g = absurd g
kind_once lines here LabelTwice TooFar f g = absurd g
kind_once lines here LabelTwice DanglingLabel f g = absurd g
kind_once lines here LabelTwice NoMemory f g = absurd g
kind_once lines here UnknownLabel other f g = absurd f
kind_once lines here Backward other f g = absurd f
kind_once lines here TooFar other f g = absurd f
kind_once lines here DanglingLabel other f g = absurd f
kind_once lines here NoMemory other f g = absurd f

line_front : (source : List (List ℕ)) (one other : AsmFault) (f : IsFirstLineFault source one) (g : IsFirstLineFault source other) → InFront f.before f.here g.before → ⊥
unfolding InFront
line_front source one other f g front =
    line_never f.before f.here g.lines f.lines one.kind (parts_of f.before f.here front.0 g.lines (rw front.1 at g.spelled)) g.once f.spelled f.faulty

line_fault_once : (source : List (List ℕ)) (one other : AsmFault) → IsFirstLineFault source one → IsFirstLineFault source other → one ≡ other
line_fault_once source one other f g =
    elim (two_places f.before f.here f.after g.before g.here g.after (sym f.split ∙ g.split)) [
      | inl s ↦
          let lines = lines_once f.before f.lines g.lines f.spelled (rw (sym s.0) at g.spelled) in
          let there : IsLineFault f.lines f.here other.kind = subst (λ (ls : List SourceLine). IsLineFault ls f.here other.kind) (sym lines) (subst (λ (h : List ℕ). IsLineFault g.lines h other.kind) (sym s.1) g.faulty) in
          same_fault one other (f.number ∙ ap (λ (b : List (List ℕ)). length b + 1) s.0 ∙ sym g.number) (kind_once f.lines f.here one.kind other.kind f.faulty there)
      | inr h ↦ elim h [ inl a ↦ absurd (line_front source one other f g a) | inr a ↦ absurd (line_front source other one g f a) ]
    ]

line_or_label : (source : List (List ℕ)) (one other : AsmFault) → IsFirstLineFault source one → IsLabelFault source other → ⊥
line_or_label source one other f g =
    line_never f.before f.here g.lines f.lines one.kind (parts_of f.before f.here f.after g.lines (rw f.split at g.spelled)) g.once f.spelled f.faulty

dangling_once : (lines : List SourceLine) (one other : AsmFault) → IsFirstDangling lines one → IsFirstDangling lines other → one ≡ other
dangling_once lines one other f g =
    let not_below : f.at < g.at → ⊥ = λ h. g.followed f.at h f.dangling in
    let not_above : g.at < f.at → ⊥ = λ h. f.followed g.at h g.dangling in
    let at : f.at ≡ g.at = omega arith in
    same_fault one other (f.number ∙ ap (λ (n : ℕ). n + 1) at ∙ sym g.number) (f.kind ∙ sym g.kind)

operand_once : (lines : List SourceLine) (place : ℕ) (operand : Operand) (one other : AsmKind) → EachLabelOnce lines → IsOperandFault lines place operand one → IsOperandFault lines place operand other → one ≡ other
operand_once lines place operand BadLine other once f g = absurd f
operand_once lines place operand BadNumber other once f g = absurd f
operand_once lines place operand LabelTwice other once f g = absurd f
operand_once lines place operand UnknownLabel BadLine once f g = absurd g
operand_once lines place operand UnknownLabel BadNumber once f g = absurd g
operand_once lines place operand UnknownLabel LabelTwice once f g = absurd g
operand_once lines place operand UnknownLabel UnknownLabel once f g = refl
operand_once lines place operand UnknownLabel Backward once f g = let h = holds_has lines operand.label g.0 g.1 in absurd (f h.0 h.1)
operand_once lines place operand UnknownLabel TooFar once f g = let h = holds_has lines operand.label g.0 g.1 in absurd (f h.0 h.1)
operand_once lines place operand UnknownLabel DanglingLabel once f g = absurd g
operand_once lines place operand UnknownLabel NoMemory once f g = absurd g
operand_once lines place operand Backward BadLine once f g = absurd g
operand_once lines place operand Backward BadNumber once f g = absurd g
operand_once lines place operand Backward LabelTwice once f g = absurd g
operand_once lines place operand Backward UnknownLabel once f g = let h = holds_has lines operand.label f.0 f.1 in absurd (g h.0 h.1)
operand_once lines place operand Backward Backward once f g = refl
operand_once lines place operand Backward TooFar once f g = let same = holds_once lines operand.label f.0 g.0 once f.1 g.1 in let low = f.2 in let far = g.2 in absurd (omega arith)
operand_once lines place operand Backward DanglingLabel once f g = absurd g
operand_once lines place operand Backward NoMemory once f g = absurd g
operand_once lines place operand TooFar BadLine once f g = absurd g
operand_once lines place operand TooFar BadNumber once f g = absurd g
operand_once lines place operand TooFar LabelTwice once f g = absurd g
operand_once lines place operand TooFar UnknownLabel once f g = let h = holds_has lines operand.label f.0 f.1 in absurd (g h.0 h.1)
operand_once lines place operand TooFar Backward once f g = let same = holds_once lines operand.label f.0 g.0 once f.1 g.1 in let far = f.2 in let low = g.2 in absurd (omega arith)
operand_once lines place operand TooFar TooFar once f g = refl
operand_once lines place operand TooFar DanglingLabel once f g = absurd g
operand_once lines place operand TooFar NoMemory once f g = absurd g
operand_once lines place operand DanglingLabel other once f g = absurd f
operand_once lines place operand NoMemory other once f g = absurd f

operand_front : (lines : List SourceLine) (place : ℕ) (s : Statement) (one other : AsmKind) → EachLabelOnce lines → (f : IsStatementFault lines place s one) (g : IsStatementFault lines place s other) → InFront f.left f.operand g.left → ⊥
unfolding InFront
operand_front lines place s one other once f g front =
    operand_never lines place f.operand one once (offset_in lines place f.left f.operand front.0 (rw front.1 at g.well)) f.faulty

statement_once : (lines : List SourceLine) (place : ℕ) (s : Statement) (one other : AsmKind) → EachLabelOnce lines → IsStatementFault lines place s one → IsStatementFault lines place s other → one ≡ other
statement_once lines place s one other once f g =
    elim (two_places f.left f.operand f.right g.left g.operand g.right (sym f.order ∙ g.order)) [
      | inl e ↦ operand_once lines place f.operand one other once f.faulty (subst (λ (o : Operand). IsOperandFault lines place o other) (sym e.1) g.faulty)
      | inr h ↦ elim h [ inl a ↦ absurd (operand_front lines place s one other once f g a) | inr a ↦ absurd (operand_front lines place s other one once g f a) ]
    ]

have_at : (lines : List SourceLine) (place : ℕ) (ss : List Statement) (s : Statement) (more : List Statement) → HaveOffsets lines place (ss ++ s ∷ more) → HasOffsets lines (place + length ss) (operands_of s)
have_at lines place [] s more h = let z : place ≡ place + 0 = omega arith in subst (λ (p : ℕ). HasOffsets lines p (operands_of s)) z h.0
have_at lines place (t ∷ ss) s more h =
    let moved : place + 1 + length ss ≡ place + length (t ∷ ss) = omega arith in
    subst (λ (p : ℕ). HasOffsets lines p (operands_of s)) moved (have_at lines (place + 1) ss s more h.1)

first_front : (lines : List SourceLine) (one other : AsmFault) → EachLabelOnce lines → (f : IsFirstOperandFault lines one) (g : IsFirstOperandFault lines other) → InFront f.before f.here g.before → ⊥
unfolding InFront
first_front lines one other once f g front =
    let all : statements_of g.before ≡ statements_of f.before ++ f.statement ∷ statements_of front.0 =
    ap statements_of front.1 ∙ statements_of-append f.before (f.here ∷ front.0) ∙ ap (λ (ss : List Statement). statements_of f.before ++ ss) (some_here f.here front.0 f.statement f.holds) in
    let have = have_at lines 0 (statements_of f.before) f.statement (statements_of front.0) (rw all at g.earlier) in
    let z : 0 + length (statements_of f.before) ≡ length (statements_of f.before) = omega arith in
    let here = subst (λ (p : ℕ). HasOffsets lines p (operands_of f.statement)) z have in
    let t = f.faulty in
    operand_never lines (length (statements_of f.before)) t.operand one.kind once (offset_in lines (length (statements_of f.before)) t.left t.operand t.right (rw t.order at here)) t.faulty

some_statement : (one other : Statement) → Some one ≡ Some other → one ≡ other
some_statement one other e = cc

first_once : (lines : List SourceLine) (one other : AsmFault) → EachLabelOnce lines → IsFirstOperandFault lines one → IsFirstOperandFault lines other → one ≡ other
first_once lines one other once f g =
    elim (two_places f.before f.here f.after g.before g.here g.after (sym f.split ∙ g.split)) [
      | inl e ↦
          let s : f.statement ≡ g.statement = some_statement _ _ (sym f.holds ∙ ap (λ (l : SourceLine). l.statement) e.1 ∙ g.holds) in
          let there : IsStatementFault lines (length (statements_of f.before)) f.statement other.kind =
          subst (λ (b : List SourceLine). IsStatementFault lines (length (statements_of b)) f.statement other.kind) (sym e.0)
          (subst (λ (t : Statement). IsStatementFault lines (length (statements_of g.before)) t other.kind) (sym s) g.faulty) in
          same_fault one other (f.number ∙ ap (λ (b : List SourceLine). length b + 1) e.0 ∙ sym g.number) (statement_once lines (length (statements_of f.before)) f.statement one.kind other.kind once f.faulty there)
      | inr h ↦ elim h [ inl a ↦ absurd (first_front lines one other once f g a) | inr a ↦ absurd (first_front lines other one once g f a) ]
    ]

label_once : (source : List (List ℕ)) (one other : AsmFault) → IsLabelFault source one → IsLabelFault source other → one ≡ other
label_once source one other f g =
    let same = lines_once source g.lines f.lines g.spelled f.spelled in
    let P : List SourceLine → Type 0 = λ lines. IsFirstDangling lines other ⊎ (((at : ℕ) → ¬ IsDangling lines at) × IsFirstOperandFault lines other) in
    let there = subst P same g.faulty in
    elim f.faulty [
      | inl d ↦ elim there [ inl e ↦ dangling_once f.lines one other d e | inr o ↦ absurd (o.0 d.at d.dangling) ]
      | inr o ↦ elim there [ inl e ↦ absurd (o.0 e.at e.dangling) | inr q ↦ first_once f.lines one other f.once o.1 q.1 ]
    ]

-- A source has at most one fault.
pub fault_once : (source : List ℕ) (one other : AsmFault) → IsFault source one → IsFault source other → one ≡ other
fault_once source one other (inl f) (inl g) = line_fault_once (source_lines source) one other f g
fault_once source one other (inl f) (inr g) = absurd (line_or_label (source_lines source) one other f g)
fault_once source one other (inr f) (inl g) = absurd (line_or_label (source_lines source) other one g f)
fault_once source one other (inr f) (inr g) = label_once (source_lines source) one other f g
