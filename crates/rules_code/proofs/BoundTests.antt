-- Comparisons with one bound.
use Rattle.std.proofs.Common.{◌≡◌, ℕ, suc, ◌+◌, ◌-◌, ◌*◌, ◌/◌, ◌%◌, ◌^◌, ◌≤◌, ◌<◌, ◌==◌, Bool, true, false, not, ◌&&◌, nat_le, nat_lt, if◌then◌else◌, List, [], ◌∷◌, drop, Option, Some, None, inl, inr, refl, sym, ap, subst, ◌∙◌, arith, bit_and, Vec, Global}
use Rattle.std.specs.Bool.{MatchBool}
use Rattle.std.specs.Option.{MatchOption}
use Rattle.std.specs.Int.{trailing_zeros, w32}
use Rattle.std.proofs.Math.Nat.{mul-le-mul_right, suc-mul}
use Rattle.std.proofs.lemmas.Bool.{and_parts, eqb-true, ltb-true, leb-true, le-leb, cases_order}
use Rattle.std.proofs.lemmas.Bool.Decides.{nat_tests}
use Rattle.std.proofs.lemmas.Option.{same_Some}
use Rattle.std.proofs.lemmas.Nat.{shr_split, and_comm, and_le_r, and_mask, and-not, mod_below, pow_pos}
use Rattle.byteorder.specs.Endian.{big_number}
use Rattle.bpf_code.specs.declared.instr.Size.{Size}
use Rattle.bpf_code.specs.declared.instr.Size.TheVariants.{Word, Half, Octet}
use Rattle.bpf_interp.specs.Packet.{octets_loaded}
use Rattle.rules_code.specs.BitTests.{lowest_bit}
use Rattle.rules_code.specs.Bounds.{most_in, is_upper, last_alike, bound_in, bound_of, IsAtMost, IsNotOf, IsBoundTest, IsComparison}
use Rattle.rules_code.specs.PlainTests.{holds, is_in, is_among, kept_bits, number_of}
use Rattle.rules_code.specs.declared.bounds.BoundTest.{BoundTest}
use Rattle.rules_code.specs.declared.packet_part.Part.{Part}
use Rattle.rules_code.specs.declared.packet_part.Span.{Span}
use Rattle.rules_code.specs.declared.plain_test.PlainTest.{PlainTest, Among, Not'}
use Rattle.rules_code.proofs.JoinedSingles.{bool_same, power, or_false}

-- ---- the bits from a bit upwards

-- The upper digit is at most the other one.
digit_le : (unit x y low : ℕ) → low < unit → x * unit ≤ y * unit + low → x ≤ y
digit_le unit x y low small le =
    elim (cases_order x y) [
      | inl e ↦ omega arith
      | inr (inl lt) ↦ omega arith
      | inr (inr lt) ↦ let more = mul-le-mul_right {m = suc y} {n = x} unit lt in let one = suc-mul y unit in absurd (omega arith)
    ]

-- A mask of the bits from a bit upwards leaves out what is below that bit.
kept_upper : (w mask n j : ℕ) → mask ≤ 2 ^ w - 1 → 2 ^ w - 1 - mask + 1 ≡ 2 ^ j → n < 2 ^ w → bit_and n mask + n % 2 ^ j ≡ n
kept_upper w mask n j fits is within =
    let below : 2 ^ j - 1 < 2 ^ w = let some = pow_pos w in omega arith in
    let rest : mask ≡ 2 ^ w - 1 - (2 ^ j - 1) = omega arith in
    let upper : bit_and n mask ≡ bit_and (2 ^ w - 1 - (2 ^ j - 1)) n = ap (λ m. bit_and n m) rest ∙ and_comm n (2 ^ w - 1 - (2 ^ j - 1)) in
    let lower : bit_and (2 ^ j - 1) n ≡ n % 2 ^ j = and_comm (2 ^ j - 1) n ∙ and_mask n j in
    let both = and-not w (2 ^ j - 1) n below within in
    omega (arith, upper, lower, both)

-- What the mask keeps is at most a number, exactly if the whole is at most the largest number with the same upper bits.
upper_le : (w mask n j most : ℕ) → w ≤ 32 → mask ≤ 2 ^ w - 1 → 2 ^ w - 1 - mask + 1 ≡ 2 ^ j → n < 2 ^ w → n < 2 ^ 32 → nat_le (bit_and n mask) most ≡ nat_le n (last_alike (2 ^ j) most)
upper_le w mask n j most few fits is within whole =
    let unit = 2 ^ j in
    let x = n / unit in
    let y = most / unit in
    let kept = kept_upper w mask n j fits is within in
    let n_is = shr_split n j in
    let most_is = shr_split most j in
    let r = mod_below n unit (pow_pos j) in
    let s = mod_below most unit (pow_pos j) in
    let digit : bit_and n mask ≡ x * unit = omega (arith, kept, n_is) in
    bool_same (nat_le (bit_and n mask) most) (nat_le n (last_alike unit most))
    (λ e.
    let le = leb-true (bit_and n mask) most e in
    let first : x * unit ≤ y * unit + most % unit = omega (arith, le, digit, most_is) in
    let less = digit_le unit x y (most % unit) s first in
    let scaled = mul-le-mul_right {m = x} {n = y} unit less in
    le-leb n (last_alike unit most) (omega (arith, scaled, n_is, most_is, r, s, whole)))
    (λ e.
    let le = leb-true n (last_alike unit most) e in
    let last : x * unit ≤ y * unit + (unit - 1) = omega (arith, le, n_is, most_is, r, s) in
    let less = digit_le unit x y (unit - 1) (omega arith) last in
    let scaled = mul-le-mul_right {m = x} {n = y} unit less in
    le-leb (bit_and n mask) most (omega (arith, scaled, digit, most_is)))

-- The number of bits of octets.
abbrev bits_in_size : Size → ℕ
bits_in_size Word = 32
bits_in_size Half = 16
bits_in_size Octet = 8

most_is : (size : Size) → most_in size ≡ 2 ^ bits_in_size size - 1
most_is Word = refl
most_is Half = refl
most_is Octet = refl

size_le : (size : Size) → bits_in_size size ≤ 32
size_le Word = omega arith
size_le Half = omega arith
size_le Octet = omega arith

most_whole : (size : Size) (n : ℕ) → n ≤ most_in size → n < 2 ^ 32
most_whole Word n le = omega arith
most_whole Half n le = omega arith
most_whole Octet n le = omega arith

most_power : (size : Size) (n : ℕ) → n ≤ most_in size → n < 2 ^ bits_in_size size
most_power Word n le = omega arith
most_power Half n le = omega arith
most_power Octet n le = omega arith

mask_le : (size : Size) (mask n : ℕ) → is_upper size mask ≡ true → n ≤ most_in size → (most : ℕ) → nat_le (bit_and n mask) most ≡ nat_le n (last_alike (lowest_bit mask) most)
mask_le size mask n e within most =
    let parts = and_parts (nat_le mask (most_in size)) (most_in size - mask + 1 == lowest_bit mask) e in
    let j = trailing_zeros w32 mask % 32 in
    let is = power mask in
    let w = bits_in_size size in
    let same = most_is size in
    let fits : mask ≤ 2 ^ w - 1 = subst (λ k. mask ≤ k) same (leb-true mask (most_in size) parts.0) in
    let unit : 2 ^ w - 1 - mask + 1 ≡ 2 ^ j = ap (λ k. k - mask + 1) (sym same) ∙ (eqb-true (most_in size - mask + 1) (lowest_bit mask) parts.1 ∙ is) in
    upper_le w mask n j most (size_le size) fits unit (most_power size n within) (most_whole size n within) ∙ ap (λ u. nat_le n (last_alike u most)) (sym is)

-- ---- what a comparison asks

-- Whether a number is within a bound.
abbrev is_bounded : BoundTest → ℕ → Bool
is_bounded bound n = if bound.within then nat_le n bound.most else not (nat_le n bound.most)

from_0 : (low high k : ℕ) → low ≡ 0 → (nat_le low k && nat_le k high) ≡ nat_le k high
from_0 low high k e = grind (arith, nat_tests)

to_top : (low high mask k : ℕ) → 0 < low → mask ≤ high → k ≤ mask → (nat_le low k && nat_le k high) ≡ not (nat_le k (low - 1))
to_top low high mask k pos top le = grind (arith, nat_tests)

module _ (mask unit n : ℕ) (span : Span) (bound : BoundTest) (alike : (most : ℕ) → nat_le (bit_and n mask) most ≡ nat_le n (last_alike unit most)) where
  lower_means : (b : Bool) → (nat_lt unit span.low && (nat_lt span.low mask && nat_le mask span.high)) ≡ b
      → (if b then Some (record { most = last_alike unit (span.low - 1); within = false }) else None) ≡ Some bound → is_in span (bit_and n mask) ≡ is_bounded bound n
  lower_means true e is =
      let first = and_parts (nat_lt unit span.low) (nat_lt span.low mask && nat_le mask span.high) e in
      let second = and_parts (nat_lt span.low mask) (nat_le mask span.high) first.1 in
      let above = ltb-true unit span.low first.0 in
      let pos : 0 < span.low = omega (arith, above) in
      to_top span.low span.high mask (bit_and n mask) pos (leb-true mask span.high second.1) (and_le_r n mask)
      ∙ (ap not (alike (span.low - 1)) ∙ ap (λ (t : BoundTest). is_bounded t n) (same_Some (record { most = last_alike unit (span.low - 1); within = false }) bound is))
  lower_means false e is = absurd cc

  bound_means : (b : Bool) → ((span.low == 0) && nat_le unit span.high) ≡ b
      → (if b then Some (record { most = last_alike unit span.high; within = true }) else (
      if nat_lt unit span.low && (nat_lt span.low mask && nat_le mask span.high) then Some (record { most = last_alike unit (span.low - 1); within = false }) else None)) ≡ Some bound
      → is_in span (bit_and n mask) ≡ is_bounded bound n
  bound_means true e is =
      let parts = and_parts _ _ e in
      from_0 span.low span.high (bit_and n mask) (eqb-true span.low 0 parts.0)
      ∙ (alike span.high ∙ ap (λ (t : BoundTest). is_bounded t n) (same_Some (record { most = last_alike unit span.high; within = true }) bound is))
  bound_means false e is = lower_means _ refl is

upper_means : (b : Bool) (size : Size) (mask n : ℕ) (span : Span) (bound : BoundTest) → is_upper size mask ≡ b → n ≤ most_in size
    → (if b then bound_in mask (lowest_bit mask) span else None) ≡ Some bound → is_in span (bit_and n mask) ≡ is_bounded bound n
upper_means true size mask n span bound e within is = bound_means mask (lowest_bit mask) n span bound (mask_le size mask n e within) _ refl is
upper_means false size mask n span bound e within is = absurd cc

-- A comparison with one bound holds exactly if the octets are within it.
bounds_say : (size : Size) (mask : Option ℕ) (first : Span) (others : List Span) (bound : BoundTest) → bound_of size mask first others ≡ Some bound → (n : ℕ) → n ≤ most_in size
    → is_among (first ∷ others) (kept_bits mask n) ≡ is_bounded bound n
bounds_say size None first others bound is n within = absurd cc
bounds_say size (Some mask) first (second ∷ more) bound is n within = absurd cc
bounds_say size (Some mask) first [] bound is n within = or_false (is_in first (bit_and n mask)) ∙ upper_means (is_upper size mask) size mask n first bound refl within is

-- ---- the test that is made of it

within_0 : (most n : ℕ) → (nat_le 0 n && nat_le n most) ≡ nat_le n most
within_0 most n = grind (arith, nat_tests)

module _ (part : Part) (packet : List ℕ) where
  -- The number of the octets.
  abbrev octets : ℕ
  octets = big_number (octets_loaded part.size) (drop part.at packet)

  at_most_holds : (most : ℕ) (test : PlainTest) → IsAtMost part most test → holds test packet ≡ nat_le octets most
  at_most_holds most (Among other first others) is =
      ap (λ (p : Part). is_among (first ∷ others.items) (number_of p packet)) is.0
      ∙ (ap (λ (s : Span). is_among (s ∷ others.items) octets) is.1
      ∙ (ap (λ (ss : List Span). is_among (record { low = 0; high = most } ∷ ss) octets) is.2
      ∙ (or_false (nat_le 0 octets && nat_le octets most) ∙ within_0 most octets)))
  at_most_holds most _ is = absurd is

  not_holds : (most : ℕ) (test : PlainTest) → IsNotOf (IsAtMost part most) test → holds test packet ≡ not (nat_le octets most)
  not_holds most (Not' p test) is = ap not (at_most_holds most test is)
  not_holds most _ is = absurd is

  bound_holds : (most : ℕ) (within : Bool) (test : PlainTest) → IsBoundTest part (record { most = most; within = within }) test → holds test packet ≡ is_bounded (record { most = most; within = within }) octets
  bound_holds most true test is = at_most_holds most test is
  bound_holds most false test is = not_holds most test is

  among_holds : (first : Span) (others : List Span) (rest : Vec Span Global) (test : PlainTest) → test ≡ Among part first rest → rest.items ≡ others → holds test packet ≡ is_among (first ∷ others) (number_of part packet)
  among_holds first others rest test is e = ap (λ (t : PlainTest). holds t packet) is ∙ ap (λ (ss : List Span). is_among (first ∷ ss) (number_of part packet)) e

  either_holds : (first : Span) (others : List Span) (test : PlainTest) → octets ≤ most_in part.size → (found : Option BoundTest) → bound_of part.size part.mask first others ≡ found
      → MatchOption found ((rest : Vec Span Global) × (test ≡ Among part first rest) × (rest.items ≡ others)) (λ bound. IsBoundTest part bound test)
      → holds test packet ≡ is_among (first ∷ others) (number_of part packet)
  either_holds first others test within None e is = among_holds first others is.0 test is.1 is.2
  either_holds first others test within (Some bound) e is =
      bound_holds bound.most bound.within test is ∙ sym (bounds_say part.size part.mask first others bound e octets within)

-- A comparison holds of the packets of which its spans say so, where each octet is less than 256.
pub comparison_holds : (part : Part) (first : Span) (others : List Span) (test : PlainTest) (packet : List ℕ) → big_number (octets_loaded part.size) (drop part.at packet) ≤ most_in part.size
    → IsComparison part first others test → holds test packet ≡ is_among (first ∷ others) (number_of part packet)
comparison_holds part first others test packet within is = either_holds part packet first others test within (bound_of part.size part.mask first others) refl is

-- ---- what is made

pub within_is : (part : Part) (bound : BoundTest) (test : PlainTest) → bound.within ≡ true → IsAtMost part bound.most test → IsBoundTest part bound test
within_is part bound test e is = subst (λ b. MatchBool b (IsAtMost part bound.most test) (IsNotOf (IsAtMost part bound.most) test)) (sym e) is

pub greater_is : (part : Part) (bound : BoundTest) (test : PlainTest) → bound.within ≡ false → IsNotOf (IsAtMost part bound.most) test → IsBoundTest part bound test
greater_is part bound test e is = subst (λ b. MatchBool b (IsAtMost part bound.most test) (IsNotOf (IsAtMost part bound.most) test)) (sym e) is

pub among_is : (part : Part) (first : Span) (others : List Span) (rest : Vec Span Global) → bound_of part.size part.mask first others ≡ None → rest.items ≡ others → IsComparison part first others (Among part first rest)
among_is part first others rest e same =
    subst
    (λ (found : Option BoundTest).
    MatchOption found ((more : Vec Span Global) × (Among part first rest ≡ Among part first more) × (more.items ≡ others)) (λ bound. IsBoundTest part bound (Among part first rest)))
    (sym e) (rest, refl, same)
