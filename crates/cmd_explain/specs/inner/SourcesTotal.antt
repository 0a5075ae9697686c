-- Every source has an answer. These laws are in `specs/` because the `Answerer` implementation cites them.
use Rattle.std.proofs.Common.{ℕ, inl, inr, List, [], ◌∷◌, ◌++◌, length, reverse, codes, decimal, refl}
use Rattle.bpf_asm.proofs.Public.{meaning-or_fault}
use Rattle.bpf_asm.specs.SourceLines.{source_lines}
use Rattle.bpf_code.specs.declared.instr.Instr.{Instr}
use Rattle.bpf_verify.proofs.Public.{accepted-or_fault}
use Rattle.bpf_verify.specs.Faults.{FailsFirst}
use Rattle.bpf_verify.specs.declared.fault.Fault.{Fault}
use Rattle.bpf_verify.specs.declared.fault.Fault.TheVariants as fault
use Rattle.cmd_explain.specs.CodeReasons.{IsRest, code_sentence, code_start, numbers_text}
use Rattle.cmd_explain.specs.Explained.{ExplainsCode, ExplainsSource}
use Rattle.cmd_explain.specs.SourceHints.{hints_of}
use Rattle.cmd_explain.specs.LinesFound.{instruction_lines}
use Rattle.cmd_explain.specs.SourceReasons.{source_explanation}
use Rattle.text_io.specs.declared.ending.Done.{Done}
use Rattle.text_io.specs.declared.ending.Done.TheVariants.{Whole, Ended}
use Rattle.cmd_programs.specs.CodeFaults.{verify_fault}
use Rattle.cmd_programs.specs.SourceFaults.{asm_fault}
use Rattle.text_words.specs.FaultLines.{line}

some-rest : (code : List Instr) (numbers : List ℕ) (fault : Fault) → FailsFirst code fault → (text : List ℕ) × IsRest code numbers fault text
some-rest code numbers fault.Empty fails = (line [], refl)
some-rest code numbers fault.TooLong fails = (line [], refl)
some-rest code numbers (fault.BadScratch at) fails = (line [], refl)
some-rest code numbers (fault.ZeroDivisor at) fails = (line [], refl)
some-rest code numbers (fault.BadShift at) fails = (line [], refl)
some-rest code numbers (fault.JumpOutside at) fails = (line [], refl)
some-rest code numbers fault.NoReturn fails = (line [], refl)
some-rest code numbers (fault.Unwritten at word) fails =
    let witness = fails.4.1 in
    (line (numbers_text numbers (reverse witness.0 ++ at ∷ [])), (witness.0, (witness.1, witness.2), refl))

-- A code with a fault has an answer.
pub fault-answered : (source : List ℕ) (code : List Instr) (fault : Fault) → FailsFirst code fault → (text : List ℕ) × ExplainsCode source code text Ended
fault-answered source code fault fails =
    let lines = source_lines source in
    let rest = some-rest code (instruction_lines 1 lines) fault fails in
    let more = code_start lines (length code) fault ++ (code_sentence fault ++ rest.0) in
    (verify_fault fault ++ more, inr (fault, fails, (more, (rest.0, rest.1, refl), refl), refl))

code-answered : (source : List ℕ) (code : List Instr) → (text : List ℕ) × (done : Done) × ExplainsCode source code text done
code-answered source code =
    elim (accepted-or_fault code) [
      | inl accepted ↦ (line (codes "accepted " ++ decimal (length code)) ++ hints_of (source_lines source) code, Whole, inl (accepted, refl, refl))
      | inr found ↦ let answered = fault-answered source code found.0 found.1 in (answered.0, Ended, answered.1)
    ]

-- Every source has an answer.
pub source-answered : (source : List ℕ) → (text : List ℕ) × (done : Done) × ExplainsSource source text done
source-answered source =
    elim (meaning-or_fault source) [
      | inl meant ↦ let answered = code-answered source meant.0 in (answered.0, answered.1, inl (meant.0, meant.1, answered.2))
      | inr found ↦ (asm_fault found.0 ++ source_explanation (source_lines source) found.0, Ended, inr (found.0, found.1, refl, refl))
    ]
