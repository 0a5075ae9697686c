-- The result of a call that reads a program.
use Rattle.std.specs.Prelude.{◌≡◌, ℕ, List, ◌++◌, Option, Some, None}
use Rattle.bpf_code.specs.declared.instr.Instr.{Instr}
use Rattle.cmd_programs.specs.Program.{ProgramReading, is_program, is_refused}

-- The call found a program and added no answer, or it found no program and added the fault line.
abbrev pub Finds : (ProgramReading → Type 0) → Option (List Instr) → List ℕ → List ℕ → Type 0
Finds Reads (Some code) old new = Reads (is_program code) × (new ≡ old)
Finds Reads None old new = (fault : List ℕ) × Reads (is_refused fault) × (new ≡ old ++ fault)
