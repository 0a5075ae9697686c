-- The answer of `explain` begins with that of `check`.
use Rattle.std.proofs.Common.{◌≡◌, ℕ, inl, inr, List, ◌++◌, ap, sym, ◌∙◌, subst}
use Rattle.bpf_asm.proofs.Public.{fault_once, meaning_once, never_both}
use Rattle.bpf_code.specs.declared.instr.Instr.{Instr}
use Rattle.bpf_verify.proofs.Public.{one_comes_first, refused-from_fault}
use Rattle.bpf_asm.specs.declared.fault.AsmFault.{AsmFault}
use Rattle.bpf_verify.specs.declared.fault.Fault.{Fault}
use Rattle.bpf_asm.specs.SourceLines.{source_lines}
use Rattle.cmd_explain.specs.AsCheck.{NamesSameFault, NamesFaultsOfCheck}
use Rattle.cmd_explain.specs.Explained.{ExplainsCode, ExplainsSource}
use Rattle.cmd_explain.specs.SourceReasons.{source_explanation}
use Rattle.text_io.specs.declared.ending.Done.{Done}
use Rattle.text_io.specs.declared.ending.Done.TheVariants.{Whole, Ended}
use Rattle.cmd_programs.specs.CodeFaults.{verify_fault}
use Rattle.cmd_programs.specs.Program.{ProgramReading, is_program, is_refused, ChecksAs}
use Rattle.cmd_programs.specs.Check.{IsCheckAnswer, PrintsSource}
use Rattle.cmd_programs.specs.SourceFaults.{asm_fault}

both_whole : (checked text : List ℕ) (ended done : Done) → ended ≡ Whole → done ≡ Whole → NamesSameFault checked text ended done
both_whole checked text ended done p q = record { alike = q ∙ sym p; begins = λ r. let bad : Whole ≡ Ended = sym q ∙ r in cc }

both_ended : (checked text more : List ℕ) (ended done : Done) → ended ≡ Ended → done ≡ Ended → text ≡ checked ++ more → NamesSameFault checked text ended done
both_ended checked text more ended done p q e = record { alike = q ∙ sym p; begins = λ r. (more, e) }

reading-same : (source : List ℕ) (code : List Instr) (reading : ProgramReading) (checked text : List ℕ) (ended done : Done) → ChecksAs code reading → IsCheckAnswer reading checked ended
    → ExplainsCode source code text done → NamesSameFault checked text ended done
reading-same source code (is_program accepted) checked text ended done checks answered (inl fine) = both_whole checked text ended done answered.1 fine.2
reading-same source code (is_program accepted) checked text ended done checks answered (inr found) = absurd (refused-from_fault code found.0 found.1 checks.0)
reading-same source code (is_refused refused) checked text ended done checks answered (inl fine) = absurd (refused-from_fault code checks.0 checks.1 fine.0)
reading-same source code (is_refused refused) checked text ended done checks answered (inr found) =
    let same = one_comes_first code found.0 checks.0 found.1 checks.1 in
    let more = found.2.0 in
    both_ended checked text more ended done answered.1 found.3
    (found.2.2 ∙ ap (λ (f : Fault). verify_fault f ++ more) same ∙ ap (λ (xs : List ℕ). xs ++ more) (sym checks.2 ∙ sym answered.0))

source-same : (source checked text : List ℕ) (ended done : Done) → PrintsSource source checked ended → ExplainsSource source text done → NamesSameFault checked text ended done
source-same source checked text ended done (inl p) (inl q) =
    let same = meaning_once source q.0 p.0 q.1 p.1 in
    let explains = subst (λ (code : List Instr). ExplainsCode source code text done) same q.2 in
    reading-same source p.0 p.2.0 checked text ended done p.2.1 p.2.2 explains
source-same source checked text ended done (inl p) (inr q) = absurd (never_both source p.0 q.0 p.1 q.1)
source-same source checked text ended done (inr p) (inl q) = absurd (never_both source q.0 p.0 q.1 p.1)
source-same source checked text ended done (inr p) (inr q) =
    let same = fault_once source q.0 p.0 q.1 p.1 in
    let more = source_explanation (source_lines source) q.0 in
    both_ended checked text more ended done p.3 q.3
    (q.2 ∙ ap (λ (f : AsmFault). asm_fault f ++ more) same ∙ ap (λ (xs : List ℕ). xs ++ more) (sym p.2))

pub names_faults : NamesFaultsOfCheck
names_faults = source-same
