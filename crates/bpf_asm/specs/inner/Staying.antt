-- A code that no instruction leaves.
use Rattle.std.specs.Prelude.{ℕ, List, length}
use Rattle.bpf_code.specs.Flow.{IsInstrAt}
use Rattle.bpf_code.specs.declared.instr.Instr.{Instr}
use Rattle.bpf_asm.specs.Listing.{StaysWithin}

-- No instruction leaves the code.
abbrev pub NoneLeaves : List Instr → Type 0
NoneLeaves code = (place : ℕ) (i : Instr) → IsInstrAt code place i → StaysWithin (length code) place i
