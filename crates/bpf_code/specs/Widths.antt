-- The widths of the fields (net/bpf.h, struct sock_filter).
use Rattle.std.specs.Prelude.{◌<◌, ◌^◌, IfSome}
use Rattle.bpf_code.specs.Table.{jt_of, jf_of, k_of}
use Rattle.bpf_code.specs.declared.instr.Instr.{Instr}

-- The operand fits into 32 bits, and each offset of a branch into 8 bits.
pub record FitsFields (i : Instr) : Type 0 where
  pub k : IfSome (k_of i) (λ k. k < 2 ^ 32)
  pub jt : IfSome (jt_of i) (λ offset. offset < 2 ^ 8)
  pub jf : IfSome (jf_of i) (λ offset. offset < 2 ^ 8)
