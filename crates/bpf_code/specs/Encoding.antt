-- The octets that `encode` writes (net/bpf.h, struct sock_filter).
use Rattle.std.specs.Prelude.{ℕ, List, ◌∷◌, ◌++◌, unwrap_or}
use Rattle.std.specs.List.{flat_map}
use Rattle.byteorder.specs.Endian.{big_bytes}
use Rattle.bpf_code.specs.Table.{code_of, jt_of, jf_of, k_of}
use Rattle.bpf_code.specs.declared.instr.Instr.{Instr}

-- The eight octets of an instruction: its code, its two offsets and its operand, big-endian. Each field that it
-- doesn't use is 0.
abbrev pub octets_of_instr : Instr → List ℕ
octets_of_instr i =
    big_bytes 2 (code_of i)
    ++ unwrap_or (jt_of i) 0 ∷ unwrap_or (jf_of i) 0 ∷ big_bytes 4 (unwrap_or (k_of i) 0)

-- The octets of the instructions, in order.
abbrev pub code_octets : List Instr → List ℕ
code_octets code = flat_map octets_of_instr code
