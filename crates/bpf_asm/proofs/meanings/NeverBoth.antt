-- A source that means a code has no fault.
use Rattle.std.proofs.Common.{◌≡◌, ℕ, ◌+◌, ◌-◌, ◌%◌, ◌^◌, Bool, true, false, ◌&&◌, ◌||◌, ◌==◌, if◌then◌else◌, List, [], ◌∷◌, ◌++◌, length, Option, Some, None, refl, sym, ap, ◌∙◌, subst, inl, inr, arith}
use Rattle.bpf_asm.specs.Faults.{HasOffset, HasOffsets, IsFault, IsFirstOperandFault, IsLabelFault, IsLineFault, IsOperandFault}
use Rattle.bpf_asm.specs.Grammar.{AreLines, IsSourceLine, AreLineTokens, IsOneOf, SourceLine}
use Rattle.bpf_asm.specs.Labels.{EachLabelOnce, HasLabel, IsDangling, Operand, statements_of}
use Rattle.bpf_asm.specs.SourceLines.{source_lines, without_comment}
use Rattle.bpf_asm.specs.Meaning.{IsMeaning, MeanFrom, Means}
use Rattle.bpf_asm.specs.StatementSpelling.{Statement}
use Rattle.bpf_asm.specs.Tokens.{HasBadNumber, Token, name, number, faulty, mark, has_faulty, is_faulty, signed, signed_after, tokens_in, tokens_of, tokens_read}
use Rattle.bpf_asm.specs.declared.fault.AsmFault.{AsmFault}
use Rattle.bpf_asm.specs.declared.fault.AsmKind.{AsmKind}
use Rattle.bpf_asm.specs.declared.fault.AsmKind.TheVariants.{BadLine, BadNumber, LabelTwice, UnknownLabel, Backward, TooFar, DanglingLabel, NoMemory}
use Rattle.bpf_asm.proofs.drafts.Agreement.{label_kept, holds_has, holds_label, statements_of-append}
use Rattle.bpf_asm.proofs.spellings.NoFaulty.{no_faulty}
use Rattle.bpf_asm.proofs.meanings.OneMeaning.{line_once, lines_once, holds_once}
use Rattle.bpf_asm.proofs.drafts.PendingSteps.{label_within}
use Rattle.bpf_asm.proofs.drafts.Resolving.{means_has}
use Rattle.bpf_code.specs.declared.instr.Instr.{Instr}

mark_faulty : (octet : ℕ) (ts : List Token) → has_faulty (signed_after (mark octet) ts) ≡ has_faulty ts
mark_faulty octet [] = refl
mark_faulty octet (name octets ∷ ts) = refl
mark_faulty octet (number value ∷ ts) = refl
mark_faulty octet (faulty ∷ ts) = refl
mark_faulty octet (mark minus ∷ []) = refl
mark_faulty octet (mark minus ∷ name octets ∷ ts) = refl
mark_faulty octet (mark minus ∷ faulty ∷ ts) = refl
mark_faulty octet (mark minus ∷ mark other ∷ ts) = refl
mark_faulty octet (mark minus ∷ number value ∷ ts) =
    elim (octet == 35 && minus == 45) as (λ t. has_faulty (if t then mark octet ∷ number ((2 ^ 32 - value) % 2 ^ 32) ∷ ts else mark octet ∷ mark minus ∷ number value ∷ ts) ≡ has_faulty ts) [ true ↦ refl | false ↦ refl ]

after_faulty : (t : Token) (ts : List Token) → has_faulty (signed_after t ts) ≡ (is_faulty t || has_faulty ts)
after_faulty (name octets) ts = refl
after_faulty (number value) ts = refl
after_faulty faulty ts = refl
after_faulty (mark octet) ts = mark_faulty octet ts

signed_faulty : (ts : List Token) → has_faulty (signed ts) ≡ has_faulty ts
unfolding signed
signed_faulty [] = refl
signed_faulty (t ∷ ts) = after_faulty t (signed ts) ∙ ap (λ (b : Bool). is_faulty t || b) (signed_faulty ts)

body_faulty : (ts : List Token) (s : Option Statement) → Rattle.bpf_asm.specs.Grammar.IsStatement ts s → has_faulty ts ≡ false
body_faulty ts None h = ap has_faulty h
body_faulty ts (Some s) h = no_faulty ts s h

line_faulty : (ts : List Token) (label : Option (List ℕ)) (s : Option Statement) → AreLineTokens ts (record { label = label; statement = s }) → has_faulty ts ≡ false
line_faulty ts None s h = ap has_faulty h.1 ∙ body_faulty h.0 s h.2
line_faulty ts (Some l) s h = ap has_faulty h.1 ∙ body_faulty h.0 s h.2

-- A line of the grammar has no bad number.
pub line_numbers : (octets : List ℕ) (line : SourceLine) → IsSourceLine octets line → HasBadNumber octets → ⊥
unfolding IsSourceLine tokens_in tokens_read HasBadNumber
line_numbers octets line is bad =
    let fine = line_faulty (signed (tokens_of (without_comment octets))) line.label line.statement is in
    let both : true ≡ false = sym bad ∙ sym (signed_faulty (tokens_of (without_comment octets))) ∙ fine in
    cc

-- Lines split as their octets do.
pub record Parts (before : List (List ℕ)) (here : List ℕ) (lines : List SourceLine) : Type 0 where
  pub front : List SourceLine
  pub line : SourceLine
  pub back : List SourceLine
  pub split : lines ≡ front ++ line ∷ back
  pub spelled : AreLines before front
  pub is : IsSourceLine here line

pub parts_of : (before : List (List ℕ)) (here : List ℕ) (after : List (List ℕ)) (lines : List SourceLine) → AreLines (before ++ here ∷ after) lines → Parts before here lines
parts_of [] here after [] a = absurd a
parts_of [] here after (line ∷ lines) a = record { front = []; line = line; back = lines; split = refl; spelled = refl; is = a.0 }
parts_of (first ∷ before) here after [] a = absurd a
parts_of (first ∷ before) here after (line ∷ lines) a =
    let later = parts_of before here after lines a.1 in
    record { front = line ∷ later.front; line = later.line; back = later.back; split = ap (λ (ls : List SourceLine). line ∷ ls) later.split; spelled = (a.0, later.spelled); is = later.is }

twice_never : (lines front : List SourceLine) (line : SourceLine) (back : List SourceLine) (label : List ℕ) (earlier : ℕ) → lines ≡ front ++ line ∷ back → EachLabelOnce lines → line.label ≡ Some label → HasLabel front earlier label → ⊥
twice_never lines front line back label earlier e once l h =
    let one : HasLabel lines earlier label = subst (λ (ls : List SourceLine). HasLabel ls earlier label) (sym e) (label_kept front (line ∷ back) earlier label h) in
    let other : HasLabel lines (length front) label = subst (λ (ls : List SourceLine). HasLabel ls (length front) label) (sym e) (holds_label front line back label l) in
    let same = once earlier (length front) label one other in
    let within = label_within front earlier label h in
    omega arith

pub line_never : (before : List (List ℕ)) (here : List ℕ) (lines known : List SourceLine) (kind : AsmKind) → Parts before here lines → EachLabelOnce lines → AreLines before known → IsLineFault known here kind → ⊥
line_never before here lines known BadNumber p once spelled f = line_numbers here p.line p.is f
line_never before here lines known BadLine p once spelled f = f.1 p.line p.is
line_never before here lines known LabelTwice p once spelled f =
    let same : known ≡ p.front = lines_once before known p.front spelled p.spelled in
    let line : f.0 ≡ p.line = line_once here f.0 p.line f.1 p.is in
    twice_never lines p.front p.line p.back f.2 f.4 p.split once (sym (ap (λ (l : SourceLine). l.label) line) ∙ f.3) (subst (λ (ls : List SourceLine). HasLabel ls f.4 f.2) same f.5)
line_never before here lines known UnknownLabel p once spelled f = f
line_never before here lines known Backward p once spelled f = f
line_never before here lines known TooFar p once spelled f = f
line_never before here lines known DanglingLabel p once spelled f = f
line_never before here lines known NoMemory p once spelled f = f

pub operand_never : (lines : List SourceLine) (place : ℕ) (operand : Operand) (kind : AsmKind) → EachLabelOnce lines → HasOffset lines place operand → IsOperandFault lines place operand kind → ⊥
operand_never lines place operand UnknownLabel once o f = let h = holds_has lines operand.label (place + 1 + o.0) o.1.holds in f h.0 h.1
operand_never lines place operand Backward once o f =
    let same = holds_once lines operand.label (place + 1 + o.0) f.0 once o.1.holds f.1 in
    let low = f.2 in omega arith
operand_never lines place operand TooFar once o f =
    let same = holds_once lines operand.label (place + 1 + o.0) f.0 once o.1.holds f.1 in
    let far = f.2 in let fits = o.1.fits in omega arith
operand_never lines place operand BadLine once o f = f
operand_never lines place operand BadNumber once o f = f
operand_never lines place operand LabelTwice once o f = f
operand_never lines place operand DanglingLabel once o f = f
operand_never lines place operand NoMemory once o f = f

pub offset_in : (lines : List SourceLine) (place : ℕ) (left : List Operand) (operand : Operand) (right : List Operand) → HasOffsets lines place (left ++ operand ∷ right) → HasOffset lines place operand
offset_in lines place [] operand right h = h.0
offset_in lines place (first ∷ left) operand right h = offset_in lines place left operand right h.1

mean_at : (lines : List SourceLine) (place : ℕ) (ss : List Statement) (s : Statement) (more : List Statement) (code : List Instr) → MeanFrom lines place (ss ++ s ∷ more) code → (i : Instr) × Means lines (place + length ss) s i
mean_at lines place [] s more [] m = absurd m
mean_at lines place [] s more (i ∷ code) m = let z : place ≡ place + 0 = omega arith in (i, subst (λ (p : ℕ). Means lines p s i) z m.0)
mean_at lines place (t ∷ ss) s more [] m = absurd m
mean_at lines place (t ∷ ss) s more (i ∷ code) m =
    let later = mean_at lines (place + 1) ss s more code m.1 in
    let moved : place + 1 + length ss ≡ place + length (t ∷ ss) = omega arith in
    (later.0, subst (λ (p : ℕ). Means lines p s later.0) moved later.1)

pub some_here : (line : SourceLine) (after : List SourceLine) (s : Statement) → line.statement ≡ Some s → statements_of (line ∷ after) ≡ s ∷ statements_of after
unfolding statements_of
some_here line after s e = rw e refl

first_never : (lines : List SourceLine) (fault : AsmFault) (code : List Instr) → EachLabelOnce lines → MeanFrom lines 0 (statements_of lines) code → IsFirstOperandFault lines fault → ⊥
first_never lines fault code once m f =
    let all : statements_of lines ≡ statements_of f.before ++ f.statement ∷ statements_of f.after =
    ap statements_of f.split ∙ statements_of-append f.before (f.here ∷ f.after) ∙ ap (λ (ss : List Statement). statements_of f.before ++ ss) (some_here f.here f.after f.statement f.holds) in
    let meant = mean_at lines 0 (statements_of f.before) f.statement (statements_of f.after) code (rw all at m) in
    let z : 0 + length (statements_of f.before) ≡ length (statements_of f.before) = omega arith in
    let here = subst (λ (p : ℕ). Means lines p f.statement meant.0) z meant.1 in
    let have = means_has lines (length (statements_of f.before)) f.statement meant.0 here in
    let g = f.faulty in
    operand_never lines (length (statements_of f.before)) g.operand fault.kind once (offset_in lines (length (statements_of f.before)) g.left g.operand g.right (rw g.order at have)) g.faulty

label_never : (source : List ℕ) (fault : AsmFault) (code : List Instr) (a : IsMeaning source code) → IsLabelFault (source_lines source) fault → ⊥
label_never source fault code a g =
    let same = lines_once (source_lines source) a.lines g.lines a.spelled g.spelled in
    let meant = subst (λ (lines : List SourceLine). MeanFrom lines 0 (statements_of lines) code) same a.mean.meant in
    let followed = subst (λ (lines : List SourceLine). (at : ℕ) → ¬ IsDangling lines at) same a.mean.followed in
    elim g.faulty [ inl d ↦ followed d.at d.dangling | inr o ↦ first_never g.lines fault code g.once meant o.1 ]

-- A source that means a code has no fault.
pub never_both : (source : List ℕ) (code : List Instr) (fault : AsmFault) → IsMeaning source code → IsFault source fault → ⊥
never_both source code fault a (inl f) =
    line_never f.before f.here a.lines f.lines fault.kind (parts_of f.before f.here f.after a.lines (rw f.split at a.spelled)) a.mean.once f.spelled f.faulty
never_both source code fault a (inr g) = label_never source fault code a g
