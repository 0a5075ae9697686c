-- Every source has an answer by `check`. These laws are in `specs/` because the `Answerer` implementation of `check` cites them.
use Rattle.std.proofs.Common.{ℕ, inl, inr, List, refl}
use Rattle.bpf_asm.proofs.Public.{meaning-or_fault}
use Rattle.bpf_code.specs.declared.instr.Instr.{Instr}
use Rattle.text_io.specs.declared.ending.Done.{Done}
use Rattle.text_io.specs.declared.ending.Done.TheVariants.{Whole, Ended}
use Rattle.cmd_programs.specs.Check.{IsCheckAnswer, PrintsCode, PrintsSource, accepted_text}
use Rattle.cmd_programs.specs.SourceFaults.{asm_fault}
use Rattle.cmd_programs.specs.Program.{ProgramReading, is_program, is_refused}
use Rattle.cmd_programs.specs.inner.ReadingLaws.{checks-as}

-- Every code has an answer.
printed-some : (reading : ProgramReading) → (text : List ℕ) × (done : Done) × IsCheckAnswer reading text done
printed-some (is_program code) = (accepted_text code, Whole, (refl, refl))
printed-some (is_refused fault) = (fault, Ended, (refl, refl))

code-printed : (code : List Instr) → (text : List ℕ) × (done : Done) × PrintsCode code text done
code-printed code =
    let read = checks-as code in
    let printed = printed-some read.0 in
    (printed.0, printed.1, (read.0, read.1, printed.2))

-- Every source has an answer.
pub source-printed : (source : List ℕ) → (text : List ℕ) × (done : Done) × PrintsSource source text done
source-printed source =
    elim (meaning-or_fault source) [
      | inl meant ↦ let printed = code-printed meant.0 in (printed.0, printed.1, inl (meant.0, meant.1, printed.2))
      | inr faulty ↦ (asm_fault faulty.0, Ended, inr (faulty.0, faulty.1, refl, refl))
    ]
