-- The longest run of a code.
use Rattle.std.specs.Prelude.{◌≡◌, ℕ, ◌+◌, ◌≤◌, List, length}
use Rattle.bpf_code.specs.Flow.{IsInstrAt, IsReturn}
use Rattle.bpf_code.specs.declared.instr.Instr.{Instr}
use Rattle.bpf_verify.specs.Paths.{IsPath}

-- Some path from place 0 to a return begins this many instructions, and no path begins more. A path begins the
-- instructions of the places that it passed, and the one of the place that it reaches.
pub record IsLongestRun (code : List Instr) (most : ℕ) : Type 0 where
  pub passed : List ℕ
  pub last : ℕ
  pub path : IsPath code passed last
  pub ends : (i : Instr) × IsInstrAt code last i × IsReturn i
  pub counted : most ≡ length passed + 1
  pub bounds : (others : List ℕ) (place : ℕ) → IsPath code others place → length others + 1 ≤ most
