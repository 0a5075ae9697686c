-- A source means the same code with comment lines added.
use Rattle.std.proofs.Common.{◌≡◌, ◌⊎◌, inl, inr, ℕ, zero, suc, ◌+◌, true, List, [], ◌∷◌, ◌++◌, length, Option, Some, None, refl, sym, ap, subst, ◌∙◌, arith}
use Rattle.std.proofs.lemmas.Bool.{eqb-true}
use Rattle.std.specs.List.{cons_option}
use Rattle.bpf_asm.specs.Grammar.{SourceLine, AreLines, IsSourceLine}
use Rattle.bpf_asm.specs.Labels.{EachLabelOnce, HasLabel, IsDangling, IsOffset, NamesPlace, Operand, statements_of}
use Rattle.bpf_asm.specs.Meaning.{IsSide, MeanFrom, Means}
use Rattle.bpf_asm.specs.SourceLines.{source_lines}
use Rattle.bpf_asm.specs.StatementSpelling.{Statement, plain, jump, branch}
use Rattle.bpf_asm.specs.Tokens.{pieces_of, signed, tokens_in, tokens_of, tokens_read}
use Rattle.bpf_code.specs.declared.instr.Instr.{Instr}
use Rattle.cmd_rules.specs.CommentLines.{AddsComments, CommentLinesMeanNothing, is_comment}

-- A line of nothing.
abbrev blank : SourceLine
blank = record { label = None; statement = None }

-- The second lines are the first, with lines of nothing among them.
abbrev AddsBlanks : List SourceLine → List SourceLine → Type 0
AddsBlanks lines [] = lines ≡ []
AddsBlanks lines (line ∷ more) = ((line ≡ blank) × AddsBlanks lines more) ⊎ ((rest : List SourceLine) × (lines ≡ line ∷ rest) × AddsBlanks rest more)

-- ---- a comment is a line of nothing

no_tokens : (octet : ℕ) (rest : List ℕ) → octet ≡ 59 → tokens_in (octet ∷ rest) ≡ []
unfolding tokens_in tokens_read tokens_of signed pieces_of
no_tokens octet rest e = subst (λ (o : ℕ). tokens_in (o ∷ rest) ≡ []) (sym e) refl

comment_blank : (line : List ℕ) → is_comment line ≡ true → IsSourceLine line blank
unfolding IsSourceLine
comment_blank [] e = cc
comment_blank (octet ∷ rest) e = ([], no_tokens octet rest (eqb-true octet 59 e), refl)

-- What the lines parse as.
lines_added : (more lines : List (List ℕ)) (parsed : List SourceLine) → AddsComments lines more → AreLines lines parsed
    → (others : List SourceLine) × AreLines more others × AddsBlanks parsed others
lines_added [] lines parsed e are =
    let none : parsed ≡ [] = subst (λ (ls : List (List ℕ)). AreLines ls parsed) e are in
    ([], refl, none)
lines_added (line ∷ more) lines parsed (inl h) are =
    let deep = lines_added more lines parsed h.1 are in
    (blank ∷ deep.0, (comment_blank line h.0, deep.1), inl (refl, deep.2))
lines_added (line ∷ more) lines parsed (inr h) are = first parsed (subst (λ (ls : List (List ℕ)). AreLines ls parsed) h.1 are) (λ rest. lines_added more h.0 rest h.2)
  where
    first : (parsed : List SourceLine) → AreLines (line ∷ h.0) parsed
        → ((rest : List SourceLine) → AreLines h.0 rest → (others : List SourceLine) × AreLines more others × AddsBlanks rest others)
        → (others : List SourceLine) × AreLines (line ∷ more) others × AddsBlanks parsed others
    first [] are deep = absurd are
    first (one ∷ rest) are deep =
        let d = deep rest are.1 in
        (one ∷ d.0, (are.0, d.1), inr (rest, refl, d.2))

-- ---- statements

statement_put : (statement : Option Statement) (one other : List Statement) → one ≡ other → cons_option statement one ≡ cons_option statement other
statement_put None one other e = e
statement_put (Some s) one other e = ap (λ (ss : List Statement). s ∷ ss) e

statement_more : (line : SourceLine) (one other : List SourceLine) → statements_of one ≡ statements_of other → statements_of (line ∷ one) ≡ statements_of (line ∷ other)
unfolding statements_of
statement_more line one other e = statement_put line.statement (statements_of one) (statements_of other) e

blank_more : (line : SourceLine) (lines : List SourceLine) → line ≡ blank → statements_of (line ∷ lines) ≡ statements_of lines
unfolding statements_of
blank_more line lines e = subst (λ (l : SourceLine). statements_of (l ∷ lines) ≡ statements_of lines) (sym e) refl

statements_same : (more lines : List SourceLine) → AddsBlanks lines more → statements_of more ≡ statements_of lines
statements_same [] lines e = ap statements_of (sym e)
statements_same (line ∷ more) lines (inl h) = blank_more line more h.0 ∙ statements_same more lines h.1
statements_same (line ∷ more) lines (inr h) = statement_more line more h.0 (statements_same more h.0 h.2) ∙ ap statements_of (sym h.1)

-- ---- labels name the same places

SplitAt : List SourceLine → List SourceLine → SourceLine → Type 0
SplitAt more before here =
    (before' : List SourceLine) × (after' : List SourceLine) × (more ≡ before' ++ here ∷ after') × (statements_of before' ≡ statements_of before)

split_blank : (line : SourceLine) (more before : List SourceLine) (here : SourceLine) → line ≡ blank → SplitAt more before here → SplitAt (line ∷ more) before here
unfolding SplitAt
split_blank line more before here e deep =
    (line ∷ deep.0, deep.1, ap (λ (ls : List SourceLine). line ∷ ls) deep.2, blank_more line deep.0 e ∙ deep.3)

split_more : (line : SourceLine) (more before : List SourceLine) (here : SourceLine) → SplitAt more before here → SplitAt (line ∷ more) (line ∷ before) here
unfolding SplitAt
split_more line more before here deep =
    (line ∷ deep.0, deep.1, ap (λ (ls : List SourceLine). line ∷ ls) deep.2, statement_more line deep.0 before deep.3)

split_first : (line : SourceLine) (more : List SourceLine) → SplitAt (line ∷ more) [] line
unfolding SplitAt
split_first line more = ([], more, refl, refl)

split_kept : (line : SourceLine) (more rest before : List SourceLine) (here : SourceLine) (after : List SourceLine) → line ∷ rest ≡ before ++ here ∷ after
    → ((before' : List SourceLine) → rest ≡ before' ++ here ∷ after → SplitAt more before' here) → SplitAt (line ∷ more) before here
split_kept line more rest [] here after e deep =
    let same : line ≡ here = cc in
    subst (λ (l : SourceLine). SplitAt (line ∷ more) [] l) same (split_first line more)
split_kept line more rest (first ∷ before) here after e deep =
    let same : line ≡ first = cc in
    let later : rest ≡ before ++ here ∷ after = cc in
    subst (λ (l : SourceLine). SplitAt (line ∷ more) (l ∷ before) here) same (split_more line more before here (deep before later))

no_lines : (before : List SourceLine) (here : SourceLine) (after : List SourceLine) → [] ≡ before ++ here ∷ after → ⊥
no_lines [] here after e = cc
no_lines (first ∷ before) here after e = cc

split_at : (more lines before : List SourceLine) (here : SourceLine) (after : List SourceLine) → AddsBlanks lines more → lines ≡ before ++ here ∷ after → SplitAt more before here
split_at [] lines before here after e cut = absurd (no_lines before here after (sym e ∙ cut))
split_at (line ∷ more) lines before here after (inl h) cut = split_blank line more before here h.0 (split_at more lines before here after h.1 cut)
split_at (line ∷ more) lines before here after (inr h) cut =
    split_kept line more h.0 before here after (sym h.1 ∙ cut) (λ before' later. split_at more h.0 before' here after h.2 later)

names_same : (more lines : List SourceLine) (label : List ℕ) (place : ℕ) → AddsBlanks lines more → NamesPlace lines label place → NamesPlace more label place
unfolding SplitAt
names_same more lines label place adds n =
    let split = split_at more lines n.before n.here n.after adds n.split in
    record { before = split.0; here = n.here; after = split.1; split = split.2; named = n.named; counted = n.counted ∙ ap length (sym split.3) }

-- ---- no label twice

none_labelled : (at : ℕ) (label : List ℕ) → HasLabel [] at label → ⊥
none_labelled at label h = let no : None ≡ Some h.0 = h.1 in cc

blank_unlabelled : (line : SourceLine) (more : List SourceLine) (label : List ℕ) → line ≡ blank → HasLabel (line ∷ more) zero label → ⊥
blank_unlabelled line more label e h =
    let same : line ≡ h.0 = let i : Some line ≡ Some h.0 = h.1 in cc in
    let named : blank.label ≡ Some label = ap (λ (l : SourceLine). l.label) (sym e ∙ same) ∙ h.2 in
    let no : None ≡ Some label = named in cc

has_fewer : (more lines : List SourceLine) (at : ℕ) (label : List ℕ) → AddsBlanks lines more → HasLabel more at label → (there : ℕ) × HasLabel lines there label
has_fewer [] lines at label e h = absurd (none_labelled at label h)
has_fewer (line ∷ more) lines zero label (inl b) h = absurd (blank_unlabelled line more label b.0 h)
has_fewer (line ∷ more) lines (suc at) label (inl b) h = has_fewer more lines at label b.1 h
has_fewer (line ∷ more) lines zero label (inr k) h = (zero, subst (λ (ls : List SourceLine). HasLabel ls zero label) (sym k.1) h)
has_fewer (line ∷ more) lines (suc at) label (inr k) h =
    let deep = has_fewer more k.0 at label k.2 h in
    (suc deep.0, subst (λ (ls : List SourceLine). HasLabel ls (suc deep.0) label) (sym k.1) deep.1)

once_after : (line : SourceLine) (rest : List SourceLine) → EachLabelOnce (line ∷ rest) → EachLabelOnce rest
once_after line rest once one other label a b = let e = once (suc one) (suc other) label a b in omega (arith, e)

once_same : (more lines : List SourceLine) → AddsBlanks lines more → EachLabelOnce lines → EachLabelOnce more
once_same [] lines e once one other label a b = absurd (none_labelled one label a)
once_same (line ∷ more) lines (inl h) once zero other label a b = absurd (blank_unlabelled line more label h.0 a)
once_same (line ∷ more) lines (inl h) once (suc one) zero label a b = absurd (blank_unlabelled line more label h.0 b)
once_same (line ∷ more) lines (inl h) once (suc one) (suc other) label a b = ap suc (once_same more lines h.1 once one other label a b)
once_same (line ∷ more) lines (inr k) once zero zero label a b = refl
once_same (line ∷ more) lines (inr k) once zero (suc other) label a b =
    let there = has_fewer more k.0 other label k.2 b in
    let e = subst EachLabelOnce k.1 once zero (suc there.0) label a there.1 in absurd (omega (arith, e))
once_same (line ∷ more) lines (inr k) once (suc one) zero label a b =
    let there = has_fewer more k.0 one label k.2 a in
    let e = subst EachLabelOnce k.1 once (suc there.0) zero label there.1 b in absurd (omega (arith, e))
once_same (line ∷ more) lines (inr k) once (suc one) (suc other) label a b =
    ap suc (once_same more k.0 k.2 (once_after line k.0 (subst EachLabelOnce k.1 once)) one other label a b)

-- ---- an instruction follows each label

dangling_same : (more lines : List SourceLine) (at : ℕ) → AddsBlanks lines more → IsDangling more at → (there : ℕ) × IsDangling lines there
dangling_same [] lines at e d = absurd (none_labelled at d.0 d.1)
dangling_same (line ∷ more) lines zero (inl h) d = absurd (blank_unlabelled line more d.0 h.0 d.1)
dangling_same (line ∷ more) lines (suc at) (inl h) d = dangling_same more lines at h.1 d
dangling_same (line ∷ more) lines zero (inr k) d =
    let same : statements_of lines ≡ [] = sym (statements_same (line ∷ more) lines (inr k)) ∙ d.2 in
    (zero, (d.0, subst (λ (ls : List SourceLine). HasLabel ls zero d.0) (sym k.1) d.1, same))
dangling_same (line ∷ more) lines (suc at) (inr k) d =
    let deep = dangling_same more k.0 at k.2 d in
    (suc deep.0, subst (λ (ls : List SourceLine). IsDangling ls (suc deep.0)) (sym k.1) deep.1)

-- ---- the statements mean the same

module _ (more lines : List SourceLine) (adds : AddsBlanks lines more) where
  offset_same : (place : ℕ) (operand : Operand) (offset : ℕ) → IsOffset lines place operand offset → IsOffset more place operand offset
  offset_same place operand offset is =
      record { holds = names_same more lines operand.label (place + 1 + offset) adds is.holds; fits = is.fits }

  side_same : (place : ℕ) (target : Option (List ℕ)) (offset : ℕ) → IsSide lines place target offset → IsSide more place target offset
  side_same place None offset is = is
  side_same place (Some target) offset is = offset_same place _ offset is

  means_same : (place : ℕ) (statement : Statement) (meant : Instr) → Means lines place statement meant → Means more place statement meant
  means_same place (plain i) meant is = is
  means_same place (jump target) meant is = (is.0, is.1, offset_same place _ is.0 is.2)
  means_same place (branch test by met unmet) meant is = (is.0, is.1, is.2, side_same place met is.0 is.3, side_same place unmet is.1 is.4)

  mean_same : (place : ℕ) (statements : List Statement) (code : List Instr) → MeanFrom lines place statements code → MeanFrom more place statements code
  mean_same place [] code are = are
  mean_same place (statement ∷ statements) [] are = absurd are
  mean_same place (statement ∷ statements) (i ∷ code) are = (means_same place statement i are.0, mean_same (place + 1) statements code are.1)

-- A source means the same code with comment lines added.
pub comments_mean_nothing : CommentLinesMeanNothing
comments_mean_nothing source other code adds means =
    let found = lines_added (source_lines other) (source_lines source) means.lines adds means.spelled in
    let blanks = found.2 in
    record {
      lines = found.0;
      spelled = found.1;
      mean = record {
        once = once_same found.0 means.lines blanks means.mean.once;
        followed = λ at d. let there = dangling_same found.0 means.lines at blanks d in means.mean.followed there.0 there.1;
        meant = mean_same found.0 means.lines blanks 0 (statements_of found.0) code
            (subst (λ (ss : List Statement). MeanFrom means.lines 0 ss code) (sym (statements_same found.0 means.lines blanks)) means.mean.meant);
      };
    }
