-- Comparisons that are tests of bits, and their code.
use Rattle.std.proofs.Common.{◌≡◌, ℕ, zero, suc, ◌*◌, ◌/◌, ◌%◌, ◌^◌, ◌≤◌, ◌<◌, ◌==◌, Bool, true, false, not, ◌&&◌, nat_le, nat_lt, if◌then◌else◌, List, [], ◌∷◌, length, Option, Some, None, inl, inr, ◌⊎◌, refl, sym, ap, subst, ◌∙◌, arith, bit_and}
use Rattle.std.specs.Int.{trailing_zeros, w32}
use Rattle.std.proofs.Math.Nat.{suc-mul}
use Rattle.std.proofs.lemmas.Bool.{and_parts, eqb-true, ltb-true, leb-true}
use Rattle.std.proofs.lemmas.Bool.Decides.{nat_tests}
use Rattle.std.proofs.lemmas.Nat.{and_le_r}
use Rattle.std.proofs.lemmas.Option.{same_Some}
use Rattle.bpf_code.specs.declared.instr.Instr.{Instr}
use Rattle.bpf_code.specs.declared.instr.Test.TheVariants.{Set}
use Rattle.rules_code.specs.Labels.{Tested, branched}
use Rattle.rules_code.specs.inner.Suffixes.{suffix_at}
use Rattle.rules_code.specs.PlainTests.{is_in, is_among, kept_bits}
use Rattle.rules_code.specs.BitTests.{lowest_bit, bits_in, bits_of}
use Rattle.rules_code.specs.TestCode.{turned, bits_code}
use Rattle.rules_code.specs.declared.bits.BitTest.{BitTest}
use Rattle.rules_code.specs.declared.packet_part.Span.{Span}
use Rattle.rules_code.proofs.Suffixes.{Gives}
use Rattle.rules_code.proofs.Growing.{IsLabel, IsWell}
use Rattle.rules_code.proofs.Branches.{branched_well, branched_front, branched_gives}
use Rattle.rules_code.proofs.JoinedSingles.{high_bits, multiple, power, or_false}
use Rattle.rules_code.proofs.Spans.{choose, turned_well, as_side, turned_side}

-- Whether the test of bits holds of a number.
abbrev pub is_met_by : BitTest → ℕ → Bool
is_met_by test n = if test.set then nat_lt 0 (bit_and n test.bits) else not (nat_lt 0 (bit_and n test.bits))

-- ---- what a comparison asks

zero_or_more : (x unit : ℕ) → (x * unit ≡ 0) ⊎ (unit ≤ x * unit)
zero_or_more zero unit = inl (omega arith)
zero_or_more (suc x) unit = let one = suc-mul x unit in inr (omega arith)

-- What a mask keeps is 0 or at least its lowest bit.
kept_or_none : (n mask j : ℕ) → mask % 2 ^ j ≡ 0 → (bit_and n mask ≡ 0) ⊎ (2 ^ j ≤ bit_and n mask)
kept_or_none n mask j e =
    let is = ap (λ m. bit_and n m) (multiple mask j e) ∙ high_bits n (mask / 2 ^ j) j in
    subst (λ k. (k ≡ 0) ⊎ (2 ^ j ≤ k)) (sym is) (zero_or_more (bit_and (n / 2 ^ j) (mask / 2 ^ j)) (2 ^ j))

none_set : (low high unit k : ℕ) → low ≡ 0 → high < unit → (k ≡ 0) ⊎ (unit ≤ k) → (nat_le low k && nat_le k high) ≡ not (nat_lt 0 k)
none_set low high unit k e lt (inl none) = grind (arith, nat_tests)
none_set low high unit k e lt (inr more) = grind (arith, nat_tests)

one_set : (low high unit mask k : ℕ) → 0 < low → low ≤ unit → mask ≤ high → k ≤ mask → (k ≡ 0) ⊎ (unit ≤ k) → (nat_le low k && nat_le k high) ≡ nat_lt 0 k
one_set low high unit mask k pos le most within (inl none) = grind (arith, nat_tests)
one_set low high unit mask k pos le most within (inr more) = grind (arith, nat_tests)

module _ (mask unit : ℕ) (span : Span) (n : ℕ) (test : BitTest) (kept : (bit_and n mask ≡ 0) ⊎ (unit ≤ bit_and n mask)) where
  set_means : (b : Bool) → (nat_lt 0 span.low && (nat_le span.low unit && nat_le mask span.high)) ≡ b → (if b then Some (record { bits = mask; set = true }) else None) ≡ Some test
      → is_in span (bit_and n mask) ≡ is_met_by test n
  set_means true e is =
      let first = and_parts _ _ e in
      let second = and_parts _ _ first.1 in
      one_set span.low span.high unit mask (bit_and n mask) (ltb-true 0 span.low first.0) (leb-true span.low unit second.0) (leb-true mask span.high second.1) (and_le_r n mask) kept
      ∙ ap (λ (t : BitTest). is_met_by t n) (same_Some (record { bits = mask; set = true }) test is)
  set_means false e is = absurd cc

  in_means : (b : Bool) → ((span.low == 0) && nat_lt span.high unit) ≡ b
      → (if b then Some (record { bits = mask; set = false }) else (if nat_lt 0 span.low && (nat_le span.low unit && nat_le mask span.high) then Some (record { bits = mask; set = true }) else None)) ≡ Some test
      → is_in span (bit_and n mask) ≡ is_met_by test n
  in_means true e is =
      let parts = and_parts _ _ e in
      none_set span.low span.high unit (bit_and n mask) (eqb-true span.low 0 parts.0) (ltb-true span.high unit parts.1) kept
      ∙ ap (λ (t : BitTest). is_met_by t n) (same_Some (record { bits = mask; set = false }) test is)
  in_means false e is = set_means _ refl is

from_means : (b : Bool) (mask unit : ℕ) (span : Span) (n : ℕ) (test : BitTest) → (b ≡ true → (bit_and n mask ≡ 0) ⊎ (unit ≤ bit_and n mask)) → (if b then bits_in mask unit span else None) ≡ Some test
    → is_in span (bit_and n mask) ≡ is_met_by test n
from_means true mask unit span n test kept is = in_means mask unit span n test (kept refl) _ refl is
from_means false mask unit span n test kept is = absurd cc

kept_unit : (n mask : ℕ) → mask % lowest_bit mask ≡ 0 → (bit_and n mask ≡ 0) ⊎ (lowest_bit mask ≤ bit_and n mask)
kept_unit n mask e =
    let is = power mask in
    subst (λ u. (bit_and n mask ≡ 0) ⊎ (u ≤ bit_and n mask)) (sym is) (kept_or_none n mask (trailing_zeros w32 mask % 32) (subst (λ u. mask % u ≡ 0) is e))

-- A comparison that is a test of bits holds exactly if that test is met.
pub bits_say : (mask : Option ℕ) (first : Span) (others : List Span) (test : BitTest) → bits_of mask first others ≡ Some test → (n : ℕ) → is_among (first ∷ others) (kept_bits mask n) ≡ is_met_by test n
bits_say None first others test is n = absurd cc
bits_say (Some mask) first (second ∷ more) test is n = absurd cc
bits_say (Some mask) first [] test is n =
    or_false (is_in first (bit_and n mask))
    ∙ from_means (mask % lowest_bit mask == 0) mask (lowest_bit mask) first n test (λ e. kept_unit n mask (eqb-true (mask % lowest_bit mask) 0 e)) is

-- ---- its code

module _ (bits : ℕ) (code : List Instr) (met unmet : ℕ) (p : IsLabel code met) (q : IsLabel code unmet) where
  -- What is true of both forms is true of the test of bits.
  of_both : (P : Tested → Type 0) (set : Bool) → (set ≡ true → P (branched Set bits code met unmet)) → (set ≡ false → P (turned (branched Set bits code unmet met)))
      → P (bits_code (record { bits = bits; set = set }) code met unmet)
  unfolding bits_code
  of_both P set x y = choose P set (branched Set bits code met unmet) (turned (branched Set bits code unmet met)) x y

  bits_set_gives : (set : Bool) (packet : List ℕ) (a value : ℕ) (x : Bool) → x ≡ is_met_by (record { bits = bits; set = set }) a
      → Gives packet (suffix_at code (if x then met else unmet)) a value
      → Gives packet (suffix_at (bits_code (record { bits = bits; set = set }) code met unmet).code (bits_code (record { bits = bits; set = set }) code met unmet).ways.entry) a value
  unfolding bits_code
  bits_set_gives true packet a value x e given =
      branched_gives Set bits code met unmet p q packet a value (as_side packet a value x (nat_lt 0 (bit_and a bits)) code met unmet e given)
  bits_set_gives false packet a value x e given =
      branched_gives Set bits code unmet met q p packet a value (turned_side packet a value x (nat_lt 0 (bit_and a bits)) code met unmet e given)

module _ (test : BitTest) (code : List Instr) (met unmet : ℕ) (p : IsLabel code met) (q : IsLabel code unmet) where
  pub bits_well : IsWell code met unmet (bits_code test code met unmet)
  bits_well =
      of_both test.bits code met unmet p q (λ t. IsWell code met unmet t) test.set (λ e. branched_well Set test.bits code met unmet p q)
      (λ e. turned_well code unmet met (branched Set test.bits code unmet met) (branched_well Set test.bits code unmet met q p))

  pub bits_front : (bits_code test code met unmet).ways.entry ≡ length (bits_code test code met unmet).code
  bits_front =
      of_both test.bits code met unmet p q (λ t. t.ways.entry ≡ length t.code) test.set (λ e. branched_front Set test.bits code met unmet p q)
      (λ e. branched_front Set test.bits code unmet met q p)

  pub bits_give : (packet : List ℕ) (a value : ℕ) (x : Bool) → x ≡ is_met_by test a → Gives packet (suffix_at code (if x then met else unmet)) a value
      → Gives packet (suffix_at (bits_code test code met unmet).code (bits_code test code met unmet).ways.entry) a value
  bits_give packet a value x e given = bits_set_gives test.bits code met unmet p q test.set packet a value x e given
