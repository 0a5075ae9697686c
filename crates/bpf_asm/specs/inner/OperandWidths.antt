-- Operands that fit the octets of an instruction.
use Rattle.std.specs.Prelude.{◌<◌, ◌^◌, IfSome}
use Rattle.bpf_code.specs.Table.{constant_of}
use Rattle.bpf_code.specs.declared.instr.By.{By}

-- A constant operand has at most 32 bits.
abbrev pub OperandFits : By → Type 0
OperandFits by = IfSome (constant_of by) (λ k. k < 2 ^ 32)
