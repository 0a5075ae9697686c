-- Octets as a program: an accepted code, or the line of the first error.
use Rattle.std.specs.Prelude.{◌≡◌, ◌≢◌, ◌⊎◌, ℕ, List}
use Rattle.bpf_code.specs.Decoding.{IsDecodeFault}
use Rattle.bpf_code.specs.OctetSpelling.{SpellsCode}
use Rattle.bpf_code.specs.declared.decoder.DecodeFault.{DecodeFault}
use Rattle.bpf_code.specs.declared.decoder.DecodeFault.TheVariants.{NoMemory}
use Rattle.bpf_code.specs.declared.instr.Instr.{Instr}
use Rattle.bpf_verify.specs.Accepted.{IsAccepted}
use Rattle.bpf_verify.specs.Faults.{FailsFirst}
use Rattle.bpf_verify.specs.declared.fault.Fault.{Fault}
use Rattle.cmd_programs.specs.CodeFaults.{decode_fault, verify_fault}

-- An accepted code, or a fault line.
pub data ProgramReading : Type 0 where
  is_program : List Instr → ProgramReading
  is_refused : List ℕ → ProgramReading

-- An accepted code is a program. Any other code is refused with the line of its first error.
abbrev pub ChecksAs : List Instr → ProgramReading → Type 0
ChecksAs code (is_program accepted) = IsAccepted code × (accepted ≡ code)
ChecksAs code (is_refused text) = (fault : Fault) × FailsFirst code fault × (text ≡ verify_fault fault)

-- Octets that spell a code are a program or refused, as that code is. Other octets are refused with the line of their error.
abbrev pub ReadsAs : List ℕ → ProgramReading → Type 0
ReadsAs octets reading =
    ((code : List Instr) × SpellsCode octets code × ChecksAs code reading)
    ⊎ ((fault : DecodeFault) × (fault ≢ NoMemory) × IsDecodeFault octets fault × (reading ≡ is_refused (decode_fault fault)))
