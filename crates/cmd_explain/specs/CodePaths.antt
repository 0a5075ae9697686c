-- Paths to a read of a scratch word that isn't written.
use Rattle.std.specs.Prelude.{ℕ, List, Any}
use Rattle.bpf_code.specs.declared.instr.Instr.{Instr}
use Rattle.bpf_verify.specs.Paths.{IsPath, Stores}

-- These places, the latest first, are a path of the code to a place, and none of them stores the word.
abbrev pub LeavesUnwritten : List Instr → ℕ → ℕ → List ℕ → Type 0
LeavesUnwritten code at word passed = IsPath code passed at × (¬ Any (Stores code word) passed)
