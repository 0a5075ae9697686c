-- Every input has exactly one text of `check`.
use Rattle.std.proofs.Common.{◌≡◌, ℕ, inl, inr, List, Option, Some, None, ap, sym, ◌∙◌, subst}
use Rattle.bpf_asm.proofs.Public.{never_both, fault_once, meaning_once}
use Rattle.bpf_code.specs.declared.instr.Instr.{Instr}
use Rattle.cmd_programs.specs.Check.{IsCheckText, PrintsCode, IsCheckAnswer, PrintsSource, most_source_octets}
use Rattle.cmd_programs.specs.Program.{ProgramReading, is_program, is_refused}
use Rattle.cmd_programs.specs.inner.ReadingLaws.{checks-once}
use Rattle.cmd_programs.specs.inner.CheckLaws.{source-printed}
use Rattle.cmd_programs.specs.SourceFaults.{asm_fault}
use Rattle.text_words.specs.FaultLines.{too_long}
use Rattle.text_io.proofs.Public.{some-gathered}
use Rattle.text_io.specs.Gathered.{AnswersGathered, gathered}
use Rattle.text_io.specs.declared.ending.Done.{Done}

-- Every input has a text.
pub some-check_text : (octets : List ℕ) → (text : List ℕ) × (done : Done) × IsCheckText octets text done
some-check_text octets = some-gathered too_long PrintsSource source-printed (gathered most_source_octets octets)

-- Equal texts and equal ends.
abbrev Same : List ℕ → List ℕ → Done → Done → Type 0
Same one other ends ends' = (one ≡ other) × (ends ≡ ends')

printed-once : (reading : ProgramReading) (text text' : List ℕ) (done done' : Done) → IsCheckAnswer reading text done → IsCheckAnswer reading text' done' → Same text text' done done'
printed-once (is_program code) text text' done done' p q = (p.0 ∙ sym q.0, p.1 ∙ sym q.1)
printed-once (is_refused fault) text text' done done' p q = (p.0 ∙ sym q.0, p.1 ∙ sym q.1)

code-same : (code : List Instr) (text text' : List ℕ) (done done' : Done) → PrintsCode code text done → PrintsCode code text' done' → Same text text' done done'
code-same code text text' done done' p q =
    let P : ProgramReading → Type 0 = λ reading. IsCheckAnswer reading text' done' in
    printed-once p.0 text text' done done' p.2 (subst P (checks-once code q.0 p.0 q.1 p.1) q.2)

source-same : (source text text' : List ℕ) (done done' : Done) → PrintsSource source text done → PrintsSource source text' done' → Same text text' done done'
source-same source text text' done done' (inl p) (inl q) =
    let P : List Instr → Type 0 = λ code. PrintsCode code text' done' in
    code-same p.0 text text' done done' p.2 (subst P (meaning_once source q.0 p.0 q.1 p.1) q.2)
source-same source text text' done done' (inl p) (inr q) = absurd (never_both source p.0 q.0 p.1 q.1)
source-same source text text' done done' (inr p) (inl q) = absurd (never_both source q.0 p.0 q.1 p.1)
source-same source text text' done done' (inr p) (inr q) =
    (p.2 ∙ ap asm_fault (fault_once source p.0 q.0 p.1 q.1) ∙ sym q.2, p.3 ∙ sym q.3)

found-same : (found : Option (List ℕ)) (text text' : List ℕ) (done done' : Done) → AnswersGathered too_long PrintsSource found text done
    → AnswersGathered too_long PrintsSource found text' done' → Same text text' done done'
found-same None text text' done done' p q = (p.0 ∙ sym q.0, p.1 ∙ sym q.1)
found-same (Some source) text text' done done' p q = source-same source text text' done done' p q

pub one-check_text : (octets one other : List ℕ) (ends other_ends : Done) → IsCheckText octets one ends → IsCheckText octets other other_ends → (one ≡ other) × (ends ≡ other_ends)
one-check_text octets one other ends other_ends p q = found-same (gathered most_source_octets octets) one other ends other_ends p q
