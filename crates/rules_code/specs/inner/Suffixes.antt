-- The instructions from a label on.
use Rattle.std.specs.Prelude.{ℕ, ◌-◌, List, length, drop}
use Rattle.bpf_code.specs.declared.instr.Instr.{Instr}

-- The instructions from a label to the end.
abbrev pub suffix_at : List Instr → ℕ → List Instr
suffix_at code label = drop (length code - label) code
