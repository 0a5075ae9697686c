-- The static check of a classic BPF program. The checks are Linux's, except that a read of an unwritten scratch word
-- counts only if some path through the code reaches it.
use Rattle.std.specs.Prelude.{ℕ, ◌-◌, ◌<◌, ◌≤◌, List, length}
use Rattle.bpf_code.specs.declared.instr.Instr.{Instr}
use Rattle.bpf_code.specs.Flow.{IsInstrAt, IsReturn, JumpsTo}
use Rattle.bpf_code.specs.Operands.{DividesBy, ShiftsBy}
use Rattle.bpf_code.specs.Scratch.{NamesWord}
use Rattle.bpf_verify.specs.Paths.{IsWrittenAt}

-- A program has 1 to 4096 instructions.
pub record IsSized (code : List Instr) : Type 0 where
  pub least : 0 < length code
  pub most : length code ≤ 4096

-- An instruction is sound by itself, at this place of a code of this many instructions: each scratch word that it uses
-- is one of the sixteen, a constant divisor isn't 0, a constant shift is less than 32, and each jump target is a place
-- of the code.
pub record IsSoundInstr (size place : ℕ) (i : Instr) : Type 0 where
  pub scratch : (word : ℕ) → NamesWord i word → word < 16
  pub divisor : (divisor : ℕ) → DividesBy i divisor → 0 < divisor
  pub shift : (count : ℕ) → ShiftsBy i count → count < 32
  pub targets : (target : ℕ) → JumpsTo place i target → target < size

-- The last instruction is a return.
abbrev pub EndsInReturn : List Instr → Type 0
EndsInReturn code = (i : Instr) × IsInstrAt code (length code - 1) i × IsReturn i

-- A code that the check accepts.
pub record IsAccepted (code : List Instr) : Type 0 where
  pub sized : IsSized code
  pub sound : (place : ℕ) (i : Instr) → IsInstrAt code place i → IsSoundInstr (length code) place i
  pub ends : EndsInReturn code
  pub written : (place : ℕ) → IsWrittenAt code place
