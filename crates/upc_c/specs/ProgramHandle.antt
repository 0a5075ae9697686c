-- The program that C has.
use Rattle.std.specs.Prelude.{◌≡◌, ◌⊎◌, List, length, ℕ, Option, None}
use Rattle.bpf_code.specs.declared.instr.Instr.{Instr}
use Rattle.upc_c.specs.Faults.{plain_fault, out_of_memory}
use Rattle.upc_c.specs.Programs.{IsDecodeRefusal, IsCheckRefusal}
use Rattle.upc_c.specs.CellHeader.{IsCellFault}
use Rattle.upc_c.specs.declared.fault.UpcFault.{UpcFault}
use Rattle.upc_c.specs.declared.program.UpcProgram.{UpcProgram}

-- The program, if there is one.
abbrev pub program_in : UpcProgram → Option (List Instr)
program_in program = program.inner.code

-- The error if no program was made: that of the octets, or an allocation failed.
abbrev pub IsNoProgram : List ℕ → UpcFault → Type 0
IsNoProgram octets fault = IsDecodeRefusal octets fault ⊎ IsCheckRefusal octets fault ⊎ (fault ≡ out_of_memory)

-- There is a program already, and it can't be replaced: UPC_PROGRAM_THERE.
abbrev pub program_there : UpcFault
program_there = plain_fault 1 6 0

-- There is no program: UPC_NO_PROGRAM.
abbrev pub program_missing : UpcFault
program_missing = plain_fault 1 7 0

-- The error if the program can't run: the octets aren't a cell; else there is no program.
abbrev pub IsRunFault : Option (List Instr) → List ℕ → UpcFault → Type 0
IsRunFault program octets fault =
    IsCellFault octets fault ⊎ ((length octets ≡ 52) × (program ≡ None) × (fault ≡ program_missing))
