-- The fields of an instruction in its eight octets, big-endian (net/bpf.h, struct sock_filter).
use Rattle.std.specs.Prelude.{ℕ, List, slice_index, drop}
use Rattle.byteorder.specs.Endian.{big_number}

-- The instruction's code: octets 0 and 1.
abbrev pub instr_code : List ℕ → ℕ
instr_code octets = big_number 2 octets

-- The offset if the test is true: octet 2.
abbrev pub jt_in : List ℕ → ℕ
jt_in octets = slice_index octets 2

-- The offset if the test is false: octet 3.
abbrev pub jf_in : List ℕ → ℕ
jf_in octets = slice_index octets 3

-- The operand: octets 4 to 7.
abbrev pub k_in : List ℕ → ℕ
k_in octets = big_number 4 (drop 4 octets)
