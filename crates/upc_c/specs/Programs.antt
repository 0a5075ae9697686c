-- The errors and results of programs and sources.
use Rattle.std.specs.Prelude.{◌≡◌, ◌⊎◌, ◌<◌, ◌≤◌, ◌++◌, ℕ, List, length, drop}
use Rattle.bpf_asm.specs.Faults.{IsFault, IsOutOfMemory}
use Rattle.bpf_asm.specs.Listing.{IsListFault, listing_of}
use Rattle.bpf_asm.specs.Meaning.{IsMeaning}
use Rattle.bpf_asm.specs.declared.fault.AsmFault.{AsmFault}
use Rattle.bpf_asm.specs.declared.fault.ListFault.{ListFault}
use Rattle.bpf_code.specs.Decoding.{IsDecodeFault}
use Rattle.bpf_code.specs.Encoding.{code_octets}
use Rattle.bpf_code.specs.OctetSpelling.{SpellsCode}
use Rattle.bpf_code.specs.declared.decoder.DecodeFault.{DecodeFault}
use Rattle.bpf_code.specs.declared.instr.Instr.{Instr}
use Rattle.bpf_verify.specs.Accepted.{IsAccepted}
use Rattle.bpf_verify.specs.Faults.{FailsFirst}
use Rattle.bpf_verify.specs.declared.fault.Fault.{Fault}
use Rattle.upc_c.specs.Faults.{no_room}
use Rattle.upc_c.specs.LibraryFaults.{asm_fault_for_c, check_fault_for_c, decode_fault_for_c, list_fault_for_c}
use Rattle.upc_c.specs.declared.fault.UpcFault.{UpcFault}

-- The text is at the front of the buffer, the rest of the buffer is unchanged, and `count` is the number of octets of
-- the text.
pub record IsWritten (text before after : List ℕ) (count : ℕ) : Type 0 where
  pub fits : length text ≤ length before
  pub written : after ≡ text ++ drop (length text) before
  pub counted : count ≡ length text

-- The text doesn't fit in the buffer. The place of the error is the number of octets that are needed.
abbrev pub IsBufferFault : List ℕ → List ℕ → UpcFault → Type 0
IsBufferFault text room fault = (length room < length text) × (fault ≡ no_room (length text))

-- The octets spell a program.
abbrev pub IsProgram : List ℕ → Type 0
IsProgram octets = (code : List Instr) × SpellsCode octets code × IsAccepted code

-- The octets don't spell a code, or an allocation failed.
abbrev pub IsDecodeRefusal : List ℕ → UpcFault → Type 0
IsDecodeRefusal octets fault = (found : DecodeFault) × IsDecodeFault octets found × (fault ≡ decode_fault_for_c found)

-- The octets spell a code that the check refuses.
abbrev pub IsCheckRefusal : List ℕ → UpcFault → Type 0
IsCheckRefusal octets fault =
    (code : List Instr) × SpellsCode octets code × (found : Fault) × FailsFirst code found × (fault ≡ check_fault_for_c found)

-- The source means no code, or an allocation failed.
abbrev pub IsAsmRefusal : List ℕ → UpcFault → Type 0
IsAsmRefusal source fault =
    (found : AsmFault) × (IsFault source found ⊎ IsOutOfMemory found) × (fault ≡ asm_fault_for_c found)

-- These are the octets of the code that the source means.
abbrev pub IsAssembled : List ℕ → List ℕ → Type 0
IsAssembled source octets = (code : List Instr) × IsMeaning source code × (octets ≡ code_octets code)

-- The text is the listing of the code that the octets spell.
abbrev pub IsListed : List ℕ → List ℕ → Type 0
IsListed octets text = (code : List Instr) × SpellsCode octets code × (text ≡ listing_of code)

-- The octets spell a code without a listing, or an allocation failed.
abbrev pub IsListRefusal : List ℕ → UpcFault → Type 0
IsListRefusal octets fault =
    (code : List Instr) × SpellsCode octets code × (found : ListFault) × IsListFault code found × (fault ≡ list_fault_for_c found)
