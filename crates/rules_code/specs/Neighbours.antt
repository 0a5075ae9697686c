-- Two comparisons of neighbouring bits as one, and the test that each of several holds.
use Rattle.std.specs.Prelude.{◌≡◌, ℕ, ◌%◌, ◌==◌, Bool, ◌&&◌, nat_lt, bit_or, if◌then◌else◌, List, [], ◌∷◌, Option, Some, None}
use Rattle.std.specs.Global.{Vec}
use Rattle.std.specs.Option.{MatchOption}
use Rattle.rules_code.specs.BitTests.{lowest_bit}
use Rattle.rules_code.specs.TestCode.{is_same_load}
use Rattle.rules_code.specs.declared.packet_part.Part.{Part}
use Rattle.rules_code.specs.declared.packet_part.Single.{Single}
use Rattle.rules_code.specs.declared.packet_part.Span.{Span}
use Rattle.rules_code.specs.declared.plain_test.PlainTest.{PlainTest}
use Rattle.rules_code.specs.declared.plain_test.PlainTest as plain

-- The comparison of masked bits of a part with the only span.
abbrev pub single_in : Part → Option ℕ → Span → List Span → Option Single
single_in part None first others = None
single_in part (Some mask) first (second ∷ more) = None
single_in part (Some mask) first [] = Some (record { part = part; mask = mask; span = first })

-- The comparison of masked bits with one span that a test is, if it is one.
abbrev pub single_of : PlainTest → Option Single
single_of (plain.Among part first others) = single_in part part.mask first others.items
single_of _ = None

-- Whether the first is a comparison with one number, and its bits are above those of the second in the same octets.
abbrev pub are_neighbours : Single → Single → Bool
are_neighbours high low =
    is_same_load high.part low.part
    && ((high.span.low == high.span.high)
    && ((high.mask % lowest_bit high.mask == 0)
    && ((high.span.low % lowest_bit high.mask == 0)
    && (nat_lt low.mask (lowest_bit high.mask)
    && (nat_lt low.span.low (lowest_bit high.mask)
    && nat_lt low.span.high (lowest_bit high.mask))))))

-- The comparison that the comparisons of neighbours are together.
abbrev pub joined_by : Single → Single → Single
joined_by high low = record {
  part = high.part;
  mask = bit_or high.mask low.mask;
  span = record { low = bit_or high.span.low low.span.low; high = bit_or high.span.low low.span.high };
}

-- The one comparison that two are together, if they are neighbours.
abbrev pub joined_singles : Option Single → Option Single → Option Single
joined_singles None other = None
joined_singles (Some one) None = None
joined_singles (Some one) (Some other) =
    if are_neighbours one other then Some (joined_by one other) else (
    if are_neighbours other one then Some (joined_by other one) else None)

-- The one comparison that two tests are together, if they are neighbours.
abbrev pub joined_single : PlainTest → PlainTest → Option Single
joined_single one other = joined_singles (single_of one) (single_of other)

-- The test is this comparison.
abbrev pub IsSingle : Single → PlainTest → Type 0
IsSingle single (plain.Among part first others) =
    (part.size ≡ single.part.size) × (part.at ≡ single.part.at) × (part.mask ≡ Some single.mask) × (first ≡ single.span) × (others.items ≡ [])
IsSingle single _ = ⊥

-- The first of these operands is this test, and the others are as the condition says.
abbrev pub BeginsWith : PlainTest → (List PlainTest → Type 0) → List PlainTest → Type 0
BeginsWith test AreOthers [] = ⊥
BeginsWith test AreOthers (operand ∷ others) = (operand ≡ test) × AreOthers others

-- These are the operands that this test and those after it make: a test that is a neighbour of what comes just before it
-- is joined to that.
abbrev pub AreOperands : PlainTest → List PlainTest → List PlainTest → Type 0
AreOperands last [] operands = operands ≡ last ∷ []
AreOperands last (test ∷ more) operands =
    MatchOption (joined_single last test) (BeginsWith last (AreOperands test more) operands)
    (λ single. (joined : PlainTest) × IsSingle single joined × AreOperands joined more operands)

-- The test is that each of these operands holds. One operand alone is the test itself.
abbrev pub IsOfOperands : List PlainTest → PlainTest → Type 0
IsOfOperands (operand ∷ []) test = test ≡ operand
IsOfOperands operands test = (tests : Vec PlainTest) × (test ≡ plain.AllOf tests) × (tests.items ≡ operands)

-- The test is that each of these tests holds, where neighbours are one comparison.
abbrev pub IsAllOf : List PlainTest → PlainTest → Type 0
IsAllOf [] test = test ≡ plain.Always
IsAllOf (first ∷ others) test = (operands : List PlainTest) × AreOperands first others operands × IsOfOperands operands test
