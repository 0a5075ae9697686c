-- What the functions that put instructions in front of a code return.
use Rattle.std.specs.Prelude.{◌≡◌, List}
use Rattle.bpf_code.specs.declared.instr.Instr.{Instr}
use Rattle.rules_code.specs.Labels.{Tested}
use Rattle.rules_code.specs.declared.draft.Ways.{Ways}

-- This code and these labels were made.
pub record IsMade (made : Tested) (code : List Instr) (ways : Ways) : Type 0 where
  pub code_is : code ≡ made.code
  pub ways_are : ways ≡ made.ways
