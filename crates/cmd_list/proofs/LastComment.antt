-- A source means the same code with a comment as its last line.
use Rattle.std.proofs.Common.{◌≡◌, ℕ, zero, suc, ◌+◌, List, [], ◌∷◌, ◌++◌, Option, Some, None, refl, sym, ap, ◌∙◌, subst, append_assoc}
use Rattle.std.specs.List.{cons_option}
use Rattle.bpf_asm.specs.Grammar.{SourceLine, IsSourceLine}
use Rattle.bpf_asm.specs.Labels.{HasLabel, IsDangling, IsOffset, NamesPlace, Operand, statements_of}
use Rattle.bpf_asm.specs.Meaning.{IsSide, LinesMean, MeanFrom, Means}
use Rattle.bpf_asm.specs.StatementSpelling.{Statement, plain, jump, branch}
use Rattle.bpf_asm.specs.Tokens.{pieces_of, signed, tokens_in, tokens_of, tokens_read}
use Rattle.bpf_code.specs.declared.instr.Instr.{Instr}

-- A line of nothing.
abbrev pub blank : SourceLine
blank = record { label = None; statement = None }

no_tokens : (rest : List ℕ) → tokens_in (59 ∷ rest) ≡ []
unfolding tokens_in tokens_read tokens_of signed pieces_of
no_tokens rest = refl

-- A comment is such a line.
pub comment_blank : (rest : List ℕ) → IsSourceLine (59 ∷ rest) blank
unfolding IsSourceLine
comment_blank rest = ([], no_tokens rest, refl)

-- The lines, and then a line of nothing.
abbrev pub with_blank : List SourceLine → List SourceLine
with_blank lines = lines ++ blank ∷ []

statement_put : (statement : Option Statement) (one other : List Statement) → one ≡ other → cons_option statement one ≡ cons_option statement other
statement_put None one other e = e
statement_put (Some s) one other e = ap (λ (ss : List Statement). s ∷ ss) e

statements_same : (lines : List SourceLine) → statements_of (with_blank lines) ≡ statements_of lines
unfolding statements_of
statements_same [] = refl
statements_same (line ∷ lines) = statement_put line.statement (statements_of (with_blank lines)) (statements_of lines) (statements_same lines)

none_labelled : (at : ℕ) (label : List ℕ) → HasLabel [] at label → ⊥
none_labelled at label h = let no : None ≡ Some h.0 = h.1 in cc

blank_unlabelled : (label : List ℕ) → HasLabel (blank ∷ []) zero label → ⊥
blank_unlabelled label h =
    let same : blank ≡ h.0 = let i : Some blank ≡ Some h.0 = h.1 in cc in
    let no : None ≡ Some label = ap (λ (l : SourceLine). l.label) same ∙ h.2 in
    cc

labelled_before : (lines : List SourceLine) (at : ℕ) (label : List ℕ) → HasLabel (with_blank lines) at label → HasLabel lines at label
labelled_before [] zero label h = absurd (blank_unlabelled label h)
labelled_before [] (suc at) label h = absurd (none_labelled at label h)
labelled_before (line ∷ lines) zero label h = h
labelled_before (line ∷ lines) (suc at) label h = labelled_before lines at label h

dangling_before : (lines : List SourceLine) (at : ℕ) → IsDangling (with_blank lines) at → IsDangling lines at
dangling_before [] at d = absurd (none_labelled at d.0 (labelled_before [] at d.0 d.1))
dangling_before (line ∷ lines) zero d = (d.0, d.1, sym (statements_same (line ∷ lines)) ∙ d.2)
dangling_before (line ∷ lines) (suc at) d = dangling_before lines at d

module _ (lines : List SourceLine) where
  names_same : (label : List ℕ) (place : ℕ) → NamesPlace lines label place → NamesPlace (with_blank lines) label place
  names_same label place n =
      record {
        before = n.before;
        here = n.here;
        after = with_blank n.after;
        split = ap with_blank n.split ∙ append_assoc n.before (n.here ∷ n.after) (blank ∷ []);
        named = n.named;
        counted = n.counted;
      }

  offset_same : (place : ℕ) (operand : Operand) (offset : ℕ) → IsOffset lines place operand offset → IsOffset (with_blank lines) place operand offset
  offset_same place operand offset is = record { holds = names_same operand.label _ is.holds; fits = is.fits }

  side_same : (place : ℕ) (target : Option (List ℕ)) (offset : ℕ) → IsSide lines place target offset → IsSide (with_blank lines) place target offset
  side_same place None offset is = is
  side_same place (Some target) offset is = offset_same place _ offset is

  means_same : (place : ℕ) (statement : Statement) (meant : Instr) → Means lines place statement meant → Means (with_blank lines) place statement meant
  means_same place (plain i) meant is = is
  means_same place (jump target) meant is = (is.0, is.1, offset_same place _ is.0 is.2)
  means_same place (branch test by met unmet) meant is = (is.0, is.1, is.2, side_same place met is.0 is.3, side_same place unmet is.1 is.4)

  mean_same : (place : ℕ) (statements : List Statement) (code : List Instr) → MeanFrom lines place statements code → MeanFrom (with_blank lines) place statements code
  mean_same place [] code are = are
  mean_same place (statement ∷ statements) [] are = absurd are
  mean_same place (statement ∷ statements) (i ∷ code) are = (means_same place statement i are.0, mean_same (place + 1) statements code are.1)

  -- The lines mean the same code with a line of nothing at the end.
  pub lines_mean : (code : List Instr) → LinesMean lines code → LinesMean (with_blank lines) code
  lines_mean code mean =
      record {
        once = λ one other label a b. mean.once one other label (labelled_before lines one label a) (labelled_before lines other label b);
        followed = λ at d. mean.followed at (dangling_before lines at d);
        meant = mean_same 0 (statements_of (with_blank lines)) code
            (subst (λ (ss : List Statement). MeanFrom lines 0 ss code) (sym (statements_same lines)) mean.meant);
      }
