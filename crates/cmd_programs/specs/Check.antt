-- The output of `upc check`. The whole input is a source of assembly. The answer is the octets of its program, or the
-- first error of the source or of its code.
use Rattle.std.specs.Prelude.{◌≡◌, ◌⊎◌, ℕ, List, ◌++◌, length, codes, decimal}
use Rattle.bpf_asm.specs.Faults.{IsFault}
use Rattle.bpf_asm.specs.Meaning.{IsMeaning}
use Rattle.bpf_asm.specs.declared.fault.AsmFault.{AsmFault}
use Rattle.bpf_code.specs.Encoding.{code_octets}
use Rattle.bpf_code.specs.declared.instr.Instr.{Instr}
use Rattle.hex.specs.Hex.{encode_lower}
use Rattle.text_words.specs.FaultLines.{line, too_long}
use Rattle.cmd_programs.specs.SourceFaults.{asm_fault}
use Rattle.cmd_programs.specs.Program.{ProgramReading, is_program, is_refused, ChecksAs}
use Rattle.text_io.specs.Gathered.{AnswersGathered, gathered}
use Rattle.text_io.specs.declared.ending.Done.{Done}
use Rattle.text_io.specs.declared.ending.Done.TheVariants.{Whole, Ended}

-- The maximum number of octets of a source.
abbrev pub most_source_octets : ℕ
most_source_octets = 1048576

-- A line with the number of instructions, and a line with the octets of the code.
abbrev pub accepted_text : List Instr → List ℕ
accepted_text code = line (codes "accepted " ++ decimal (length code)) ++ line (encode_lower (code_octets code))

-- The answer to a program is its octets and the run is Whole; the answer to a refusal is its line and the run is
-- Ended.
abbrev pub IsCheckAnswer : ProgramReading → List ℕ → Done → Type 0
IsCheckAnswer (is_program code) text done = (text ≡ accepted_text code) × (done ≡ Whole)
IsCheckAnswer (is_refused fault) text done = (text ≡ fault) × (done ≡ Ended)

-- The answer to a code, which is a program or is refused.
abbrev pub PrintsCode : List Instr → List ℕ → Done → Type 0
PrintsCode code text done = (reading : ProgramReading) × ChecksAs code reading × IsCheckAnswer reading text done

-- The answer to a source: that of the code that it means, or the line of its error.
abbrev pub PrintsSource : List ℕ → List ℕ → Done → Type 0
PrintsSource source text done =
    ((code : List Instr) × IsMeaning source code × PrintsCode code text done)
    ⊎ ((fault : AsmFault) × IsFault source fault × (text ≡ asm_fault fault) × (done ≡ Ended))

-- The output for a whole input, or `too_long` if it is over the limit, and how the run ends.
abbrev pub IsCheckText : List ℕ → List ℕ → Done → Type 0
IsCheckText octets text done = AnswersGathered too_long PrintsSource (gathered most_source_octets octets) text done
