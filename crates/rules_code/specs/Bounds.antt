-- Comparisons of the upper bits of octets with one bound. They become comparisons of the octets themselves, without a mask.
use Rattle.std.specs.Prelude.{◌≡◌, ℕ, ◌+◌, ◌-◌, ◌%◌, ◌^◌, min, Bool, true, false, ◌==◌, ◌&&◌, nat_le, nat_lt, if◌then◌else◌, List, [], ◌∷◌, Option, Some, None, MatchOption, MatchBool}
use Rattle.std.specs.Global.{Vec}
use Rattle.bpf_code.specs.declared.instr.Size.{Size}
use Rattle.bpf_code.specs.declared.instr.Size.TheVariants.{Word, Half, Octet}
use Rattle.rules_code.specs.BitTests.{lowest_bit}
use Rattle.rules_code.specs.TestCode.{whole_of}
use Rattle.rules_code.specs.declared.bounds.BoundTest.{BoundTest}
use Rattle.rules_code.specs.declared.packet_part.Part.{Part}
use Rattle.rules_code.specs.declared.packet_part.Span.{Span}
use Rattle.rules_code.specs.declared.plain_test.PlainTest.{PlainTest}
use Rattle.rules_code.specs.declared.plain_test.PlainTest as plain

-- The largest number of one, two or four octets.
abbrev pub most_in : Size → ℕ
most_in Word = 4294967295
most_in Half = 65535
most_in Octet = 255

-- Whether a mask keeps all bits of these octets from some bit upwards, and no lower bit.
abbrev pub is_upper : Size → ℕ → Bool
is_upper size mask = nat_le mask (most_in size) && (most_in size - mask + 1 == lowest_bit mask)

-- The largest number whose bits from `unit` upwards are those of this number. `unit` is a power of 2.
abbrev pub last_alike : ℕ → ℕ → ℕ
last_alike unit number = min (number - number % unit + (unit - 1)) (2 ^ 32 - 1)

-- The bound of a comparison of masked bits with a span, if it has one: an upper bound if the span begins at 0, a lower one if the span ends
-- with the largest number. `unit` is the lowest bit of the mask. Tests of bits and of one number have none.
abbrev pub bound_in : ℕ → ℕ → Span → Option BoundTest
bound_in mask unit span =
    if (span.low == 0) && nat_le unit span.high then Some (record { most = last_alike unit span.high; within = true }) else (
    if nat_lt unit span.low && (nat_lt span.low mask && nat_le mask span.high) then Some (record { most = last_alike unit (span.low - 1); within = false }) else None)

-- The bound of a comparison of octets, if its mask keeps their bits from some bit upwards and it has one bound.
abbrev pub bound_of : Size → Option ℕ → Span → List Span → Option BoundTest
bound_of size None first others = None
bound_of size (Some mask) first (second ∷ more) = None
bound_of size (Some mask) first [] = if is_upper size mask then bound_in mask (lowest_bit mask) first else None

-- The test is that the octets of a part are at most a number.
abbrev pub IsAtMost : Part → ℕ → PlainTest → Type 0
IsAtMost part most (plain.Among octets first others) = (octets ≡ whole_of part) × (first ≡ record { low = 0; high = most }) × (others.items ≡ [])
IsAtMost part most _ = ⊥

-- The test is that another doesn't hold.
abbrev pub IsNotOf : (PlainTest → Type 0) → PlainTest → Type 0
IsNotOf Is (plain.Not' p test) = Is test
IsNotOf Is _ = ⊥

-- The test is that the octets of a part are within a bound.
abbrev pub IsBoundTest : Part → BoundTest → PlainTest → Type 0
IsBoundTest part bound test = MatchBool bound.within (IsAtMost part bound.most test) (IsNotOf (IsAtMost part bound.most) test)

-- The test is that a part is in one of these spans.
abbrev pub IsComparison : Part → Span → List Span → PlainTest → Type 0
IsComparison part first others test = MatchOption (bound_of part.size part.mask first others)
    ((rest : Vec Span) × (test ≡ plain.Among part first rest) × (rest.items ≡ others))
    (λ bound. IsBoundTest part bound test)
