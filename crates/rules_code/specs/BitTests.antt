-- Comparisons that ask whether some bits are set.
use Rattle.std.specs.Prelude.{ℕ, true, false, ◌*◌, ◌%◌, ◌^◌, ◌==◌, ◌&&◌, nat_le, nat_lt, if◌then◌else◌, List, [], ◌∷◌, Option, Some, None}
use Rattle.std.specs.Int.{trailing_zeros, w32}
use Rattle.rules_code.specs.declared.bits.BitTest.{BitTest}
use Rattle.rules_code.specs.declared.packet_part.Span.{Span}

-- The lowest bit of a mask as a number: a power of 2.
abbrev pub lowest_bit : ℕ → ℕ
lowest_bit mask = (1 * 2 ^ (trailing_zeros w32 mask % 32)) % 2 ^ 32

-- The test of bits that is equivalent to a comparison of masked bits with a span, if there is one. `unit` is the lowest bit of the mask. If
-- of the numbers that the mask can keep only 0 is in the span, no bit may be set; if all but 0 are in it, one has to be set.
abbrev pub bits_in : ℕ → ℕ → Span → Option BitTest
bits_in mask unit span =
    if (span.low == 0) && nat_lt span.high unit then Some (record { bits = mask; set = false }) else (
    if nat_lt 0 span.low && (nat_le span.low unit && nat_le mask span.high) then Some (record { bits = mask; set = true }) else None)

-- The test of bits that is equivalent to a comparison of masked bits with a span, if the mask is a multiple of its lowest bit, as every
-- mask of 32 bits is.
abbrev pub bits_from : ℕ → ℕ → Span → Option BitTest
bits_from mask unit span = if mask % unit == 0 then bits_in mask unit span else None

-- The test of bits that is equivalent to a comparison, if there is one.
abbrev pub bits_of : Option ℕ → Span → List Span → Option BitTest
bits_of None first others = None
bits_of (Some mask) first (second ∷ more) = None
bits_of (Some mask) first [] = bits_from mask (lowest_bit mask) first
