-- A comparison of neighbouring bits holds exactly if both comparisons do.
use Rattle.std.proofs.Common.{◌≡◌, ℕ, suc, ◌+◌, ◌*◌, ◌/◌, ◌%◌, ◌^◌, ◌≤◌, ◌<◌, Bool, true, false, ◌&&◌, ◌||◌, nat_le, if◌then◌else◌, List, [], ◌∷◌, drop, Option, Some, None, inl, inr, refl, sym, ap, subst, ◌∙◌, arith, add-zero, bit_and, bit_or}
use Rattle.std.specs.Int.{trailing_zeros, w32}
use Rattle.std.proofs.lemmas.Option.{same_Some}
use Rattle.std.proofs.lemmas.Bool.{and_parts, eqb-true, ltb-true, leb-true, le-leb, cases_order}
use Rattle.std.proofs.lemmas.Nat.{shr_split, and_block, and_le_l, and_comm, mod_below, pow_pos, or_shifted, one_shl}
use Rattle.std.proofs.Math.Nat.{mul-le-mul_right, le_of_mul-le-mul_right, suc-mul}
use Rattle.byteorder.specs.Endian.{big_number}
use Rattle.bpf_code.specs.declared.instr.Size.{Size}
use Rattle.bpf_interp.specs.Packet.{octets_loaded}
use Rattle.rules_code.specs.PlainTests.{holds, is_among, is_in, kept_bits, number_of}
use Rattle.rules_code.specs.BitTests.{lowest_bit}
use Rattle.rules_code.specs.Neighbours.{IsSingle, are_neighbours, joined_by, joined_single, joined_singles, single_in, single_of}
use Rattle.rules_code.specs.TestCode.{is_same_load}
use Rattle.rules_code.specs.declared.packet_part.Part.{Part}
use Rattle.rules_code.specs.declared.packet_part.Single.{Single}
use Rattle.rules_code.specs.declared.packet_part.Span.{Span}
use Rattle.rules_code.specs.declared.plain_test.PlainTest.{PlainTest, Always, Among, Not', AllOf', AnyOf'}
use Rattle.rules_code.proofs.Loads.{octets_are}

-- ---- bits above and below a power of two

zero_and : (n : ℕ) → bit_and n 0 ≡ 0
zero_and n = and_comm n 0

-- The bits that a mask of high bits keeps.
pub high_bits : (n q j : ℕ) → bit_and n (q * 2 ^ j) ≡ bit_and (n / 2 ^ j) q * 2 ^ j
high_bits n q j =
    let high = n / 2 ^ j in
    let low = n % 2 ^ j in
    let whole : bit_and n (q * 2 ^ j) ≡ bit_and (high * 2 ^ j + low) (q * 2 ^ j + 0) =
    ap (λ x. bit_and x (q * 2 ^ j)) (sym (shr_split n j)) ∙ ap (λ y. bit_and (high * 2 ^ j + low) y) (sym (add-zero (q * 2 ^ j))) in
    whole ∙ (and_block j high q low 0 (mod_below n (2 ^ j) (pow_pos j)) (pow_pos j) ∙ (ap (λ z. bit_and high q * 2 ^ j + z) (zero_and low) ∙ add-zero (bit_and high q * 2 ^ j)))

-- The bits that a mask of low bits keeps.
low_bits : (n m j : ℕ) → m < 2 ^ j → bit_and n m ≡ bit_and (n % 2 ^ j) m
low_bits n m j lt =
    let high = n / 2 ^ j in
    let low = n % 2 ^ j in
    let whole : bit_and n m ≡ bit_and (high * 2 ^ j + low) (0 * 2 ^ j + m) =
    ap (λ x. bit_and x m) (sym (shr_split n j)) ∙ ap (λ y. bit_and (high * 2 ^ j + low) y) (omega arith) in
    whole ∙ (and_block j high 0 low m (mod_below n (2 ^ j) (pow_pos j)) lt ∙ (ap (λ z. z * 2 ^ j + bit_and low m) (zero_and high) ∙ omega arith))

-- The bits that both masks keep together.
joined_bits : (n q m j : ℕ) → m < 2 ^ j → bit_and n (bit_or (q * 2 ^ j) m) ≡ bit_and (n / 2 ^ j) q * 2 ^ j + bit_and (n % 2 ^ j) m
joined_bits n q m j lt =
    let high = n / 2 ^ j in
    let low = n % 2 ^ j in
    ap (λ y. bit_and n y) (or_shifted q j m lt)
    ∙ (ap (λ x. bit_and x (q * 2 ^ j + m)) (sym (shr_split n j)) ∙ and_block j high q low m (mod_below n (2 ^ j) (pow_pos j)) lt)

-- ---- numbers of high and low digits

-- Tests that are true of the same are the same.
pub bool_same : (x y : Bool) → (x ≡ true → y ≡ true) → (y ≡ true → x ≡ true) → x ≡ y
bool_same true y p q = sym (p refl)
bool_same false true p q = q refl
bool_same false false p q = refl

-- The high digit is this one and the low digit between two, exactly if the number is between two.
digits_from : (unit k x low a b : ℕ) → low < unit → a < unit → b < unit → k * unit + a ≤ x * unit + low → x * unit + low ≤ k * unit + b → (x ≡ k) × (a ≤ low) × (low ≤ b)
digits_from unit k x low a b small least most first last =
    elim (cases_order x k) [
      | inl e ↦ let same : x * unit ≡ k * unit = ap (λ n. n * unit) e in (e, omega arith, omega arith)
      | inr (inl lt) ↦ let more = mul-le-mul_right {m = suc x} {n = k} unit lt in let one = suc-mul x unit in absurd (omega arith)
      | inr (inr lt) ↦ let more = mul-le-mul_right {m = suc k} {n = x} unit lt in let one = suc-mul k unit in absurd (omega arith)
    ]

digits_into : (unit k x low a b : ℕ) → x ≡ k → a ≤ low → low ≤ b → (k * unit + a ≤ x * unit + low) × (x * unit + low ≤ k * unit + b)
digits_into unit k x low a b e first last = let same : x * unit ≡ k * unit = ap (λ n. n * unit) e in (omega arith, omega arith)

same_digit : (unit k x : ℕ) → 0 < unit → k * unit ≤ x * unit → x * unit ≤ k * unit → x ≡ k
same_digit unit k x pos first last =
    let p : k ≤ x = le_of_mul-le-mul_right {m = k} {n = x} {k = unit} first pos in
    let q : x ≤ k = le_of_mul-le-mul_right {m = x} {n = k} {k = unit} last pos in omega arith

and_true : (x y : Bool) → x ≡ true → y ≡ true → (x && y) ≡ true
and_true true true p q = refl
and_true true false p q = q
and_true false y p q = p

-- Both comparisons against the one of the number of both digits.
digits_tests : (unit k x low a b : ℕ) → 0 < unit → low < unit → a < unit → b < unit
    → (nat_le (k * unit + a) (x * unit + low) && nat_le (x * unit + low) (k * unit + b)) ≡ ((nat_le (k * unit) (x * unit) && nat_le (x * unit) (k * unit)) && (nat_le a low && nat_le low b))
digits_tests unit k x low a b pos small least most =
    bool_same _ _
    (λ e.
    let parts = and_parts (nat_le (k * unit + a) (x * unit + low)) (nat_le (x * unit + low) (k * unit + b)) e in
    let all = digits_from unit k x low a b small least most (leb-true _ _ parts.0) (leb-true _ _ parts.1) in
    let same : x * unit ≡ k * unit = ap (λ n. n * unit) all.0 in
    let p : k * unit ≤ x * unit = omega arith in
    let q : x * unit ≤ k * unit = omega arith in
    and_true _ _ (and_true _ _ (le-leb _ _ p) (le-leb _ _ q)) (and_true _ _ (le-leb a low all.1) (le-leb low b all.2)))
    (λ e.
    let parts = and_parts (nat_le (k * unit) (x * unit) && nat_le (x * unit) (k * unit)) (nat_le a low && nat_le low b) e in
    let high = and_parts (nat_le (k * unit) (x * unit)) (nat_le (x * unit) (k * unit)) parts.0 in
    let less = and_parts (nat_le a low) (nat_le low b) parts.1 in
    let all = digits_into unit k x low a b (same_digit unit k x pos (leb-true _ _ high.0) (leb-true _ _ high.1)) (leb-true a low less.0) (leb-true low b less.1) in
    and_true _ _ (le-leb _ _ all.0) (le-leb _ _ all.1))

-- ---- singles

pub multiple : (n j : ℕ) → n % 2 ^ j ≡ 0 → n ≡ n / 2 ^ j * 2 ^ j
multiple n j e = sym (shr_split n j) ∙ (ap (λ z. n / 2 ^ j * 2 ^ j + z) e ∙ add-zero (n / 2 ^ j * 2 ^ j))

-- The comparison of a single with a number.
abbrev is_in_single : Single → ℕ → Bool
is_in_single single n = is_in single.span (bit_and n single.mask)

record AreApart (high low : Single) (j : ℕ) : Type 0 where
  one : high.span.low ≡ high.span.high
  mask : high.mask % 2 ^ j ≡ 0
  number : high.span.low % 2 ^ j ≡ 0
  below : low.mask < 2 ^ j
  least : low.span.low < 2 ^ j
  most : low.span.high < 2 ^ j

joined_number : (high low : Single) (j n : ℕ) → AreApart high low j → is_in (joined_by high low).span (bit_and n (joined_by high low).mask) ≡ (is_in_single high n && is_in_single low n)
joined_number high low j n apart =
    let unit = 2 ^ j in
    let q = high.mask / unit in
    let k = high.span.low / unit in
    let x = bit_and (n / unit) q in
    let rest = bit_and (n % unit) low.mask in
    let mask_is = multiple high.mask j apart.mask in
    let number_is = multiple high.span.low j apart.number in
    let kept = and_le_l (n % unit) low.mask in
    let low_digit = mod_below n unit (pow_pos j) in
    let less : rest < unit = omega arith in
    let all : bit_and n (bit_or high.mask low.mask) ≡ x * unit + rest = ap (λ m. bit_and n (bit_or m low.mask)) mask_is ∙ joined_bits n q low.mask j apart.below in
    let upper : bit_and n high.mask ≡ x * unit = ap (λ m. bit_and n m) mask_is ∙ high_bits n q j in
    let lower : bit_and n low.mask ≡ rest = low_bits n low.mask j apart.below in
    let first : bit_or high.span.low low.span.low ≡ k * unit + low.span.low = ap (λ m. bit_or m low.span.low) number_is ∙ or_shifted k j low.span.low apart.least in
    let last : bit_or high.span.low low.span.high ≡ k * unit + low.span.high = ap (λ m. bit_or m low.span.high) number_is ∙ or_shifted k j low.span.high apart.most in
    let tests = digits_tests unit k x rest low.span.low low.span.high (pow_pos j) less apart.least apart.most in
    let known_at_join : is_in (joined_by high low).span (bit_and n (bit_or high.mask low.mask)) ≡ (nat_le (k * unit + low.span.low) (x * unit + rest) && nat_le (x * unit + rest) (k * unit + low.span.high)) =
    ap (λ m. nat_le (bit_or high.span.low low.span.low) m && nat_le m (bit_or high.span.low low.span.high)) all
    ∙ (ap (λ a. nat_le a (x * unit + rest) && nat_le (x * unit + rest) (bit_or high.span.low low.span.high)) first
    ∙ ap (λ b. nat_le (k * unit + low.span.low) (x * unit + rest) && nat_le (x * unit + rest) b) last) in
    let exact : is_in_single high n ≡ (nat_le (k * unit) (x * unit) && nat_le (x * unit) (k * unit)) =
    ap (λ m. nat_le high.span.low m && nat_le m high.span.high) upper
    ∙ (ap (λ b. nat_le high.span.low (x * unit) && nat_le (x * unit) b) (sym apart.one)
    ∙ ap (λ a. nat_le a (x * unit) && nat_le (x * unit) a) number_is) in
    let inside : is_in_single low n ≡ (nat_le low.span.low rest && nat_le rest low.span.high) = ap (λ m. nat_le low.span.low m && nat_le m low.span.high) lower in
    known_at_join ∙ (tests ∙ sym (ap (λ b. b && is_in_single low n) exact ∙ ap (λ b. (nat_le (k * unit) (x * unit) && nat_le (x * unit) (k * unit)) && b) inside))

-- ---- from the tests of the code

pub power : (mask : ℕ) → lowest_bit mask ≡ 2 ^ (trailing_zeros w32 mask % 32)
power mask = one_shl (trailing_zeros w32 mask % 32) 32 (mod_below (trailing_zeros w32 mask) 32 (omega arith))

apart : (high low : Single) → are_neighbours high low ≡ true → (is_same_load high.part low.part ≡ true) × AreApart high low (trailing_zeros w32 high.mask % 32)
apart high low e =
    let unit = lowest_bit high.mask in
    let is = power high.mask in
    let a = and_parts _ _ e in
    let b = and_parts _ _ a.1 in
    let c = and_parts _ _ b.1 in
    let d = and_parts _ _ c.1 in
    let f = and_parts _ _ d.1 in
    let g = and_parts _ _ f.1 in (
      a.0,
      record {
        one = eqb-true high.span.low high.span.high b.0;
        mask = subst (λ u. high.mask % u ≡ 0) is (eqb-true (high.mask % unit) 0 c.0);
        number = subst (λ u. high.span.low % u ≡ 0) is (eqb-true (high.span.low % unit) 0 d.0);
        below = subst (λ u. low.mask < u) is (ltb-true low.mask unit f.0);
        least = subst (λ u. low.span.low < u) is (ltb-true low.span.low unit g.0);
        most = subst (λ u. low.span.high < u) is (ltb-true low.span.high unit g.1);
      },
    )

-- ---- tests

-- The number of the octets of a part.
abbrev number_there : Part → List ℕ → ℕ
number_there part packet = big_number (octets_loaded part.size) (drop part.at packet)

pub or_false : (b : Bool) → (b || false) ≡ b
or_false true = refl
or_false false = refl

-- A test that is a single comparison holds as that does.
single_by : (part : Part) (mask : Option ℕ) (first : Span) (others : List Span) (packet : List ℕ) (single : Single) → part.mask ≡ mask → single_in part mask first others ≡ Some single
    → is_among (first ∷ others) (number_of part packet) ≡ is_in_single single (number_there single.part packet)
single_by part None first others packet single m e = absurd cc
single_by part (Some mask) first (second ∷ more) packet single m e = absurd cc
single_by part (Some mask) first [] packet single m e =
    let is = same_Some (record { part = part; mask = mask; span = first }) single e in
    or_false (is_in first (number_of part packet))
    ∙ (ap (λ (k : Option ℕ). is_in first (kept_bits k (number_there part packet))) m
    ∙ ap (λ (s : Single). is_in_single s (number_there s.part packet)) is)

single_holds : (test : PlainTest) (packet : List ℕ) (single : Single) → single_of test ≡ Some single → holds test packet ≡ is_in_single single (number_there single.part packet)
single_holds Always packet single e = absurd cc
single_holds (Among part first others) packet single e = single_by part part.mask first others.items packet single refl e
single_holds (Not' p test) packet single e = absurd cc
single_holds (AllOf' shape tests) packet single e = absurd cc
single_holds (AnyOf' shape tests) packet single e = absurd cc

made_holds : (single : Single) (test : PlainTest) (packet : List ℕ) → IsSingle single test → holds test packet ≡ is_in_single single (number_there single.part packet)
made_holds single (Among part first others) packet is =
    ap (λ (ss : List Span). is_among (first ∷ ss) (number_of part packet)) is.4
    ∙ (or_false (is_in first (number_of part packet))
    ∙ (ap (λ (k : Option ℕ). is_in first (kept_bits k (number_there part packet))) is.2
    ∙ (ap (λ (z : Size). is_in first (bit_and (big_number (octets_loaded z) (drop part.at packet)) single.mask)) is.0
    ∙ (ap (λ n. is_in first (bit_and (big_number (octets_loaded single.part.size) (drop n packet)) single.mask)) is.1
    ∙ ap (λ (s : Span). is_in s (bit_and (number_there single.part packet) single.mask)) is.3))))
made_holds single _ packet is = absurd is

and_swap : (x y : Bool) → (x && y) ≡ (y && x)
and_swap true true = refl
and_swap true false = refl
and_swap false true = refl
and_swap false false = refl

-- The test that two neighbours become means what both mean.
both_say : (high low : Single) (packet : List ℕ) → are_neighbours high low ≡ true
    → is_in_single (joined_by high low) (number_there high.part packet) ≡ (is_in_single high (number_there high.part packet) && is_in_single low (number_there low.part packet))
both_say high low packet e =
    let found = apart high low e in
    joined_number high low (trailing_zeros w32 high.mask % 32) (number_there high.part packet) found.1
    ∙ ap (λ n. is_in_single high (number_there high.part packet) && is_in_single low n) (octets_are high.part low.part packet found.0)

-- What is chosen for two singles.
chosen : (one other : Single) (packet : List ℕ) (b c : Bool) (single : Single) → are_neighbours one other ≡ b → are_neighbours other one ≡ c
    → (if b then Some (joined_by one other) else (if c then Some (joined_by other one) else None)) ≡ Some single
    → is_in_single single (number_there single.part packet) ≡ (is_in_single one (number_there one.part packet) && is_in_single other (number_there other.part packet))
chosen one other packet true c single p q e =
    let is = same_Some (joined_by one other) single e in
    ap (λ (s : Single). is_in_single s (number_there s.part packet)) (sym is) ∙ both_say one other packet p
chosen one other packet false true single p q e =
    let is = same_Some (joined_by other one) single e in
    ap (λ (s : Single). is_in_single s (number_there s.part packet)) (sym is)
    ∙ (both_say other one packet q ∙ and_swap (is_in_single other (number_there other.part packet)) (is_in_single one (number_there one.part packet)))
chosen one other packet false false single p q e = absurd cc

joined_means : (one other : PlainTest) (packet : List ℕ) (a b : Option Single) (single : Single) → single_of one ≡ a → single_of other ≡ b → joined_singles a b ≡ Some single
    → is_in_single single (number_there single.part packet) ≡ (holds one packet && holds other packet)
joined_means one other packet None b single p q e = absurd cc
joined_means one other packet (Some s) None single p q e = absurd cc
joined_means one other packet (Some s) (Some t) single p q e =
    chosen s t packet (are_neighbours s t) (are_neighbours t s) single refl refl e
    ∙ (ap (λ x. x && is_in_single t (number_there t.part packet)) (sym (single_holds one packet s p)) ∙ ap (λ x. holds one packet && x) (sym (single_holds other packet t q)))

-- A test to which a neighbour is joined means what both mean.
pub joined_holds : (one other test : PlainTest) (packet : List ℕ) (single : Single) → joined_single one other ≡ Some single → IsSingle single test → holds test packet ≡ (holds one packet && holds other packet)
joined_holds one other test packet single e is =
    made_holds single test packet is ∙ joined_means one other packet (single_of one) (single_of other) single refl refl e
