-- A source means a code or has a fault.
use Rattle.std.proofs.Common.{◌≡◌, ◌⊎◌, ℕ, ◌+◌, List, [], ◌∷◌, ◌++◌, length, Option, Some, None, refl, sym, ap, ◌∙◌, subst, inl, inr, arith, append_assoc, append-nil}
use Rattle.std.specs.Option.{option_to_list}
use Rattle.bpf_asm.specs.Faults.{IsFault, IsFirstOperandFault}
use Rattle.bpf_asm.specs.Grammar.{AreLines, SourceLine}
use Rattle.bpf_asm.specs.Labels.{EachLabelOnce, statements_of}
use Rattle.bpf_asm.specs.SourceLines.{source_lines}
use Rattle.bpf_asm.specs.Meaning.{IsMeaning, MeanFrom, Means}
use Rattle.bpf_asm.specs.inner.Pending.{IsPending}
use Rattle.bpf_asm.specs.StatementSpelling.{Statement}
use Rattle.bpf_asm.specs.declared.fault.AsmFault.{AsmFault}
use Rattle.bpf_asm.specs.declared.fault.AsmKind.TheVariants.{DanglingLabel}
use Rattle.bpf_asm.proofs.drafts.Assembled.{dangling_source, means_source}
use Rattle.bpf_asm.proofs.totality.DanglingOrNone.{dangling-or_none}
use Rattle.bpf_asm.proofs.totality.LinesOrFault.{lines-or_fault}
use Rattle.bpf_asm.proofs.totality.OffsetOrFault.{means-or_fault}
use Rattle.bpf_asm.proofs.drafts.Resolving.{mean_have, mean_more, statements_more}
use Rattle.bpf_code.specs.declared.instr.Instr.{Instr}

-- All statements mean instructions, or some operand is the first without an offset.
abbrev pub MeanOrFaulty : List SourceLine → Type 0
MeanOrFaulty lines = ((code : List Instr) × MeanFrom lines 0 (statements_of lines) code) ⊎ ((fault : AsmFault) × IsFirstOperandFault lines fault)

-- The statements of one more line.
next_line : (before : List SourceLine) (line : SourceLine) (s : Option Statement) → line.statement ≡ s → statements_of (before ++ line ∷ []) ≡ statements_of before ++ option_to_list s
next_line before line s e = statements_more before line ∙ ap (λ (o : Option Statement). statements_of before ++ option_to_list o) e

-- The same with one more line.
mean_line : (lines before : List SourceLine) (line : SourceLine) (after : List SourceLine) (code : List Instr) (s : Option Statement) → line.statement ≡ s → lines ≡ before ++ line ∷ after → MeanFrom lines 0 (statements_of before) code → ((more : List Instr) × MeanFrom lines 0 (statements_of (before ++ line ∷ [])) more) ⊎ ((fault : AsmFault) × IsFirstOperandFault lines fault)
mean_line lines before line after code None none split m =
    let same : statements_of (before ++ line ∷ []) ≡ statements_of before = next_line before line None none ∙ append-nil (statements_of before) in
    inl (code, subst (λ (ss : List Statement). MeanFrom lines 0 ss code) (sym same) m)
mean_line lines before line after code (Some s) holds split m =
    elim (means-or_fault lines (length (statements_of before)) s) [
      | inl here ↦
          let place : length (statements_of before) ≡ 0 + length (statements_of before) = omega arith in
          let means = subst (λ (p : ℕ). Means lines p s here.0) place here.1 in
          let all = mean_more lines 0 (statements_of before) code s here.0 m means in
          inl (code ++ here.0 ∷ [], subst (λ (ss : List Statement). MeanFrom lines 0 ss (code ++ here.0 ∷ [])) (sym (next_line before line (Some s) holds)) all)
      | inr bad ↦
          let fault : AsmFault = record { line = length before + 1; kind = bad.0 } in
          inr (
            fault,
            record {
              before = before;
              here = line;
              after = after;
              split = split;
              number = refl;
              earlier = mean_have lines 0 (statements_of before) code m;
              statement = s;
              holds = holds;
              faulty = bad.1;
            },
          )
    ]

-- The same for the lines that are left.
mean_after : (lines before after : List SourceLine) (code : List Instr) → lines ≡ before ++ after → MeanFrom lines 0 (statements_of before) code → MeanOrFaulty lines
mean_after lines before [] code split m =
    let all : before ≡ lines = sym (append-nil before) ∙ sym split in
    inl (code, subst (λ (ls : List SourceLine). MeanFrom lines 0 (statements_of ls) code) all m)
mean_after lines before (line ∷ after) code split m =
    elim (mean_line lines before line after code line.statement refl split m) [
      | inl more ↦ mean_after lines (before ++ line ∷ []) after more.0 (split ∙ sym (append_assoc before (line ∷ []) after)) more.1
      | inr bad ↦ inr bad
    ]

-- No statements mean the empty code.
mean_none : (lines : List SourceLine) → MeanFrom lines 0 (statements_of []) []
unfolding statements_of
mean_none lines = refl

-- The same for the statements of all lines.
mean-or_fault : (lines : List SourceLine) → MeanOrFaulty lines
mean-or_fault lines = mean_after lines [] lines [] refl (mean_none lines)

-- Lines of the grammar with each label once mean a code or have a fault of labels.
spelled-or_fault : (source : List ℕ) (lines : List SourceLine) (pending : Option ℕ) → AreLines (source_lines source) lines → EachLabelOnce lines → IsPending lines pending → ((code : List Instr) × IsMeaning source code) ⊎ ((fault : AsmFault) × IsFault source fault)
spelled-or_fault source lines (Some at) spelled once pending =
    let fault : AsmFault = record { line = at + 1; kind = DanglingLabel } in
    inr (fault, dangling_source source lines at fault spelled once pending (refl, refl))
spelled-or_fault source lines None spelled once none =
    elim (mean-or_fault lines) [
      | inl mean ↦ inl (mean.0, means_source source lines mean.0 spelled once none mean.1)
      | inr bad ↦ inr (bad.0, inr (record { lines = lines; spelled = spelled; once = once; faulty = inr (none, bad.1) }))
    ]

-- A source means a code or has a fault.
pub meaning-or_fault : (source : List ℕ) → ((code : List Instr) × IsMeaning source code) ⊎ ((fault : AsmFault) × IsFault source fault)
meaning-or_fault source =
    elim (lines-or_fault (source_lines source)) [
      | inl read ↦ let pending = dangling-or_none read.0 in spelled-or_fault source read.0 pending.0 read.1 read.2 pending.1
      | inr bad ↦ inr (bad.0, inl bad.1)
    ]
