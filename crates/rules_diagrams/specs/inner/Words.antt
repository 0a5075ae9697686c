-- Numbers of 32 bits of which each bit is known or is a bit of the cell, the lowest first.
use Rattle.std.specs.Prelude.{◌≡◌, ℕ, ◌+◌, ◌*◌, ◌==◌, nat_lt, bit_and, Bool, true, false, ◌&&◌, ◌||◌, if◌then◌else◌, List, [], ◌∷◌}
use Rattle.bpf_code.specs.declared.instr.Op.{Op}
use Rattle.bpf_code.specs.declared.instr.Op.TheVariants.{And, Or, Xor}
use Rattle.bpf_code.specs.declared.instr.Test.{Test}
use Rattle.bpf_code.specs.declared.instr.Test.TheVariants.{Eq, Gt, Ge, Set}
use Rattle.bpf_interp.specs.Arithmetic.{result_of}
use Rattle.rules_diagrams.specs.inner.CellBits.{is_set}
use Rattle.rules_diagrams.specs.inner.Spans.{truth}
use Rattle.rules_diagrams.specs.declared.word.Bit.{Bit}
use Rattle.rules_diagrams.specs.declared.word.Bit.TheVariants.{Zero, One, Of}

-- Whether a bit is set for a cell.
abbrev pub bit_in : Bit → ℕ → Bool
bit_in Zero cell = false
bit_in One cell = true
bit_in (Of bit) cell = is_set cell bit

-- The number that bits are for a cell.
abbrev pub word_number : List Bit → ℕ → ℕ
word_number [] cell = 0
word_number (bit ∷ more) cell = truth (bit_in bit cell) + 2 * word_number more cell

-- For each cell, the bits are the number that the function gives.
abbrev pub AreNumber : (ℕ → ℕ) → List Bit → Type 0
AreNumber number bits = (cell : ℕ) → word_number bits cell ≡ number cell

-- The operation is one on bits.
abbrev pub IsBitwise : Op → Type 0
IsBitwise And = Unit {0}
IsBitwise Or = Unit {0}
IsBitwise Xor = Unit {0}
IsBitwise _ = ⊥

-- The bit is the result of a bitwise operation on two bits.
pub record IsBitResult (op : Op) (one other bit : Bit) : Type 0 where
  pub bitwise : IsBitwise op
  pub value : (cell : ℕ) → truth (bit_in bit cell) ≡ result_of op (truth (bit_in one cell)) (truth (bit_in other cell))

-- The result of an operation on two words.
abbrev pub AreResult : Op → List Bit → List Bit → List Bit → Type 0
AreResult op one other bits = (cell : ℕ) → word_number bits cell ≡ result_of op (word_number one cell) (word_number other cell)

-- The result of a test on two numbers whose lower bits gave this result.
abbrev pub test_after : Test → ℕ → ℕ → Bool → Bool
test_after Eq a k lower = (a == k) && lower
test_after Gt a k lower = nat_lt k a || ((a == k) && lower)
test_after Ge a k lower = nat_lt k a || ((a == k) && lower)
test_after Set a k lower = nat_lt 0 (bit_and a k) || lower

-- The result of a test on two bits.
abbrev pub test_bits : Test → Bool → Bool → Bool → Bool
test_bits Eq one other lower = if one then (other && lower) else if other then false else lower
test_bits Gt one other lower = if one then (if other then lower else true) else if other then false else lower
test_bits Ge one other lower = if one then (if other then lower else true) else if other then false else lower
test_bits Set one other lower = if one then (if other then true else lower) else lower
