-- Numbers bit by bit.
use Rattle.std.proofs.Common.{◌≡◌, ℕ, ◌+◌, ◌-◌, ◌*◌, ◌/◌, ◌%◌, ◌^◌, ◌≤◌, ◌<◌, ◌==◌, nat_lt, bit_and, bit_or, bit_xor, Bool, true, false, ◌||◌, List, [], ◌∷◌, length, get_or, take, drop, refl, sym, ap, subst, ◌∙◌, arith}
use Rattle.std.proofs.lemmas.Bool.{eqb-true}
use Rattle.std.proofs.lemmas.Bool.Decides.{nat_tests}
use Rattle.std.proofs.lemmas.Nat.{and_block, or_block, xor_block, mod-pow-add, pow-add, shr-shr}
use Rattle.std.proofs.lemmas.List.{take_all}
use Rattle.bpf_code.specs.declared.instr.Op.{Op}
use Rattle.bpf_code.specs.declared.instr.Op.TheVariants.{Add, Sub, Mul, Div, Or, And, Lsh, Rsh, Mod, Xor}
use Rattle.bpf_code.specs.declared.instr.Test.{Test}
use Rattle.bpf_code.specs.declared.instr.Test.TheVariants.{Eq, Gt, Ge, Set}
use Rattle.bpf_interp.specs.Arithmetic.{result_of}
use Rattle.bpf_interp.specs.Tests.{test_of}
use Rattle.rules_diagrams.specs.inner.CellBits.{is_set}
use Rattle.rules_diagrams.specs.inner.Spans.{bits_number, truth}
use Rattle.rules_diagrams.specs.inner.Words.{bit_in, word_number, test_after, test_bits, AreResult, IsBitwise, IsBitResult}
use Rattle.rules_diagrams.specs.inner.WordTests.{test_of_none}
use Rattle.rules_diagrams.specs.declared.word.Bit.{Bit}
use Rattle.rules_diagrams.specs.declared.word.Bit.TheVariants.{Zero}

truth_small : (b : Bool) → truth b < 2
truth_small true = omega arith
truth_small false = omega arith

-- Bits of which there is a first.
pub slice_parts : (bits : List Bit) (first : Bit) → 0 < length bits → bits ≡ get_or bits 0 first ∷ take (length bits - 1) (drop 1 bits)
slice_parts [] first some = absurd (omega (arith, some))
slice_parts (bit ∷ more) first some = ap (λ (rest : List Bit). bit ∷ rest) (sym (take_all (length (bit ∷ more) - 1) more (omega arith)))

pub no_slice : (bits : List Bit) → length bits < 1 → bits ≡ []
no_slice [] none = refl
no_slice (bit ∷ more) none = absurd (omega (arith, none))

-- ---- bitwise operations

and_more : (r s a b : ℕ) → r < 2 → s < 2 → bit_and (r + 2 * a) (s + 2 * b) ≡ bit_and r s + 2 * bit_and a b
and_more r s a b lt also =
    let one : r + 2 * a ≡ a * 2 ^ 1 + r = omega arith in
    let other : s + 2 * b ≡ b * 2 ^ 1 + s = omega arith in
    ap (λ n. bit_and n (s + 2 * b)) one ∙ (ap (λ n. bit_and (a * 2 ^ 1 + r) n) other ∙ (and_block 1 a b r s lt also ∙ omega arith))

or_more : (r s a b : ℕ) → r < 2 → s < 2 → bit_or (r + 2 * a) (s + 2 * b) ≡ bit_or r s + 2 * bit_or a b
or_more r s a b lt also =
    let one : r + 2 * a ≡ a * 2 ^ 1 + r = omega arith in
    let other : s + 2 * b ≡ b * 2 ^ 1 + s = omega arith in
    ap (λ n. bit_or n (s + 2 * b)) one ∙ (ap (λ n. bit_or (a * 2 ^ 1 + r) n) other ∙ (or_block 1 a b r s lt also ∙ omega arith))

xor_more : (r s a b : ℕ) → r < 2 → s < 2 → bit_xor (r + 2 * a) (s + 2 * b) ≡ bit_xor r s + 2 * bit_xor a b
xor_more r s a b lt also =
    let one : r + 2 * a ≡ a * 2 ^ 1 + r = omega arith in
    let other : s + 2 * b ≡ b * 2 ^ 1 + s = omega arith in
    ap (λ n. bit_xor n (s + 2 * b)) one ∙ (ap (λ n. bit_xor (a * 2 ^ 1 + r) n) other ∙ (xor_block 1 a b r s lt also ∙ omega arith))

more_by : (op : Op) → IsBitwise op → (r s a b : ℕ) → r < 2 → s < 2 → result_of op (r + 2 * a) (s + 2 * b) ≡ result_of op r s + 2 * result_of op a b
more_by And is r s a b lt also = and_more r s a b lt also
more_by Or is r s a b lt also = or_more r s a b lt also
more_by Xor is r s a b lt also = xor_more r s a b lt also
more_by Add is r s a b lt also = absurd is
more_by Sub is r s a b lt also = absurd is
more_by Mul is r s a b lt also = absurd is
more_by Div is r s a b lt also = absurd is
more_by Lsh is r s a b lt also = absurd is
more_by Rsh is r s a b lt also = absurd is
more_by Mod is r s a b lt also = absurd is

pub result_more : (op : Op) (one other bit : Bit) (ones others bits : List Bit) → IsBitResult op one other bit → AreResult op ones others bits → AreResult op (one ∷ ones) (other ∷ others) (bit ∷ bits)
result_more op one other bit ones others bits is are = λ cell.
    ap (λ n. n + 2 * word_number bits cell) (is.value cell)
    ∙ (ap (λ n. result_of op (truth (bit_in one cell)) (truth (bit_in other cell)) + 2 * n) (are cell)
    ∙ sym (more_by op is.bitwise (truth (bit_in one cell)) (truth (bit_in other cell)) (word_number ones cell) (word_number others cell) (truth_small (bit_in one cell)) (truth_small (bit_in other cell))))

-- ---- tests

-- A number by its lowest bit.
parity : (k : ℕ) → k ≡ truth (k % 2 == 1) + 2 * (k / 2)
parity k =
    let cases : (b : Bool) → (k % 2 == 1) ≡ b → k ≡ truth b + 2 * (k / 2) = elim [
      | true ↦ λ e. let one = eqb-true (k % 2) 1 e in omega (arith, one)
      | false ↦ λ e. let none : k % 2 ≡ 0 = grind (arith, nat_tests) in omega (arith, none)
    ] in
    cases (k % 2 == 1) refl

eq_more : (b c lower : Bool) (a k : ℕ) → test_after Eq (truth b + 2 * a) (truth c + 2 * k) lower ≡ test_after Eq a k (test_bits Eq b c lower)
eq_more true true lower a k = grind (arith, nat_tests)
eq_more true false lower a k = grind (arith, nat_tests)
eq_more false true lower a k = grind (arith, nat_tests)
eq_more false false lower a k = grind (arith, nat_tests)

gt_more : (b c lower : Bool) (a k : ℕ) → test_after Gt (truth b + 2 * a) (truth c + 2 * k) lower ≡ test_after Gt a k (test_bits Gt b c lower)
gt_more true true lower a k = grind (arith, nat_tests)
gt_more true false lower a k = grind (arith, nat_tests)
gt_more false true lower a k = grind (arith, nat_tests)
gt_more false false lower a k = grind (arith, nat_tests)

-- Whether a sum of bits in common isn't 0.
set_parts : (b c lower : Bool) (n : ℕ) → (nat_lt 0 (bit_and (truth b) (truth c) + 2 * n) || lower) ≡ (nat_lt 0 n || test_bits Set b c lower)
set_parts true true lower n = grind (arith, nat_tests)
set_parts true false lower n = grind (arith, nat_tests)
set_parts false true lower n = grind (arith, nat_tests)
set_parts false false lower n = grind (arith, nat_tests)

set_more : (b c lower : Bool) (a k : ℕ) → test_after Set (truth b + 2 * a) (truth c + 2 * k) lower ≡ test_after Set a k (test_bits Set b c lower)
set_more b c lower a k =
    ap (λ n. nat_lt 0 n || lower) (and_more (truth b) (truth c) a k (truth_small b) (truth_small c)) ∙ set_parts b c lower (bit_and a k)

more_bits : (test : Test) (b c lower : Bool) (a k : ℕ) → test_after test (truth b + 2 * a) (truth c + 2 * k) lower ≡ test_after test a k (test_bits test b c lower)
more_bits Eq b c lower a k = eq_more b c lower a k
more_bits Gt b c lower a k = gt_more b c lower a k
more_bits Ge b c lower a k = gt_more b c lower a k
more_bits Set b c lower a k = set_more b c lower a k

pub test_more : (test : Test) (b lower : Bool) (a k : ℕ) → test_after test (truth b + 2 * a) k lower ≡ test_after test a (k / 2) (test_bits test b (k % 2 == 1) lower)
test_more test b lower a k =
    ap (λ n. test_after test (truth b + 2 * a) n lower) (parity k) ∙ more_bits test b (k % 2 == 1) lower a (k / 2)

-- The test above no bits.
pub test_whole : (test : Test) (a k : ℕ) → test_after test a k (test_of_none test) ≡ test_of test a k
test_whole Eq a k = grind (arith, nat_tests)
test_whole Gt a k = grind (arith, nat_tests)
test_whole Ge a k = grind (arith, nat_tests)
test_whole Set a k = grind (arith, nat_tests)

-- The test of no bits with a constant that has none either.
pub test_ended : (test : Test) (k : ℕ) (lower : Bool) → k ≡ 0 → test_after test 0 k lower ≡ lower
test_ended Eq k lower e = grind (arith, nat_tests)
test_ended Gt k lower e = grind (arith, nat_tests)
test_ended Ge k lower e = grind (arith, nat_tests)
test_ended Set k lower e = subst (λ n. (nat_lt 0 (bit_and 0 n) || lower) ≡ lower) (sym e) refl

-- ---- words

pub parity_of : (k : ℕ) → truth (k % 2 == 1) + 2 * (k / 2) ≡ k
parity_of k = sym (parity k)

double_power : (x p : ℕ) → 0 < p → x * 2 ^ p ≡ x * 2 ^ (p - 1) * 2
double_power x p some =
    let whole : p ≡ p - 1 + 1 = omega (arith, some) in
    ap (λ n. x * 2 ^ n) whole ∙ (ap (λ n. x * n) (pow-add 2 (p - 1) 1) ∙ grind arith)

-- A remainder by its lowest bit.
cut_lowest : (n w : ℕ) → 0 < w → n % 2 ^ w ≡ n % 2 + 2 * (n / 2 % 2 ^ (w - 1))
cut_lowest n w some =
    let whole : w - 1 + 1 ≡ w = omega (arith, some) in
    ap (λ v. n % 2 ^ v) (sym whole) ∙ (mod-pow-add n (w - 1) 1 ∙ omega arith)

bit_parity : (n : ℕ) → n % 2 ≡ truth (n % 2 == 1)
bit_parity n =
    let cases : (b : Bool) → (n % 2 == 1) ≡ b → n % 2 ≡ truth b = elim [
      | true ↦ λ e. eqb-true (n % 2) 1 e
      | false ↦ λ e. grind (arith, nat_tests)
    ] in
    cases (n % 2 == 1) refl

pub spelled_more : (cell first many : ℕ) → 0 < many → first + many ≤ 416 → truth (is_set cell (first + (many - 1))) + 2 * bits_number cell first (many - 1) ≡ bits_number cell first many
unfolding bits_number is_set
spelled_more cell first many some fits =
    let place = 416 - (first + many) in
    let at : 415 - (first + (many - 1)) ≡ place = omega (arith, some, fits) in
    let later : 416 - (first + (many - 1)) ≡ place + 1 = omega (arith, some, fits) in
    let halved : cell / 2 ^ (416 - (first + (many - 1))) ≡ cell / 2 ^ place / 2 = ap (λ n. cell / 2 ^ n) later ∙ sym (shr-shr cell place 1) in
    let lowest : truth (cell / 2 ^ (415 - (first + (many - 1))) % 2 == 1) ≡ cell / 2 ^ place % 2 = ap (λ n. truth (cell / 2 ^ n % 2 == 1)) at ∙ sym (bit_parity (cell / 2 ^ place)) in
    ap (λ n. n + 2 * (cell / 2 ^ (416 - (first + (many - 1))) % 2 ^ (many - 1))) lowest
    ∙ (ap (λ n. cell / 2 ^ place % 2 + 2 * (n % 2 ^ (many - 1))) halved ∙ sym (cut_lowest (cell / 2 ^ place) many some))

pub left_more : (x p w : ℕ) → 0 < p → 0 < w → 0 + 2 * ((x * 2 ^ (p - 1)) % 2 ^ (w - 1)) ≡ (x * 2 ^ p) % 2 ^ w
left_more x p w some also =
    let y = x * 2 ^ (p - 1) in
    let doubled : x * 2 ^ p ≡ y * 2 = double_power x p some in
    let low : (y * 2) % 2 ≡ 0 = omega arith in
    let half : y * 2 / 2 ≡ y = omega arith in
    sym (ap (λ n. n % 2 ^ w) doubled ∙ (cut_lowest (y * 2) w also ∙ (ap (λ n. n + 2 * (y * 2 / 2 % 2 ^ (w - 1))) low ∙ ap (λ n. 0 + 2 * (n % 2 ^ (w - 1))) half)))

pub cut_more : (b : Bool) (m w : ℕ) → 0 < w → truth b + 2 * (m % 2 ^ (w - 1)) ≡ (truth b + 2 * m) % 2 ^ w
cut_more b m w some =
    let small = truth_small b in
    let low : (truth b + 2 * m) % 2 ≡ truth b = omega (arith, small) in
    let half : (truth b + 2 * m) / 2 ≡ m = omega (arith, small) in
    sym (cut_lowest (truth b + 2 * m) w some ∙ (ap (λ n. n + 2 * ((truth b + 2 * m) / 2 % 2 ^ (w - 1))) low ∙ ap (λ n. truth b + 2 * (n % 2 ^ (w - 1))) half))

pub right_more : (b : Bool) (m p : ℕ) → 0 < p → m / 2 ^ (p - 1) ≡ (truth b + 2 * m) / 2 ^ p
right_more b m p some =
    let small = truth_small b in
    let half : (truth b + 2 * m) / 2 ≡ m = omega (arith, small) in
    let whole : 1 + (p - 1) ≡ p = omega (arith, some) in
    ap (λ n. n / 2 ^ (p - 1)) (sym half) ∙ (shr-shr (truth b + 2 * m) 1 (p - 1) ∙ ap (λ n. (truth b + 2 * m) / 2 ^ n) whole)

pub half_below : (k w : ℕ) → 0 < w → k < 2 ^ w → k / 2 < 2 ^ (w - 1)
half_below k w some lt =
    let doubled = double_power 1 w some in
    omega (arith, lt, doubled)

-- What a word is, whose bits are a bit and a word.
pub word_more : (made rest : List Bit) (bit : Bit) (cell number : ℕ) → made ≡ bit ∷ rest → truth (bit_in bit cell) + 2 * word_number rest cell ≡ number → word_number made cell ≡ number
word_more made rest bit cell number e is = ap (λ (bits : List Bit). word_number bits cell) e ∙ is

pub spelled_none : (cell first many : ℕ) → many ≡ 0 → 0 ≡ bits_number cell first many
unfolding bits_number
spelled_none cell first many none = subst (λ w. 0 ≡ cell / 2 ^ (416 - (first + w)) % 2 ^ w) (sym none) (omega arith)

-- Bits of which there is a first are that bit and the rest.
first_and_rest : (bits : List Bit) (first : Bit) (cell : ℕ) → 0 < length bits
    → word_number bits cell ≡ truth (bit_in (get_or bits 0 first) cell) + 2 * word_number (take (length bits - 1) (drop 1 bits)) cell
first_and_rest bits first cell some = ap (λ (all : List Bit). word_number all cell) (slice_parts bits first some)

pub cut_first : (made rest bits : List Bit) (first : Bit) (cell places width : ℕ) → 0 < length bits → places ≡ 0 → 0 < width → made ≡ get_or bits 0 first ∷ rest
    → word_number rest cell ≡ (word_number (take (length bits - 1) (drop 1 bits)) cell * 2 ^ 0) % 2 ^ (width - 1)
    → word_number made cell ≡ (word_number bits cell * 2 ^ places) % 2 ^ width
cut_first made rest bits first cell places width some none also e is =
    let b = bit_in (get_or bits 0 first) cell in
    let m = word_number (take (length bits - 1) (drop 1 bits)) cell in
    let plain : word_number rest cell ≡ m % 2 ^ (width - 1) = is ∙ ap (λ n. n % 2 ^ (width - 1)) (omega arith) in
    let whole : truth b + 2 * m ≡ word_number bits cell * 2 ^ 0 = sym (first_and_rest bits first cell some) ∙ omega arith in
    ap (λ (all : List Bit). word_number all cell) e
    ∙ (ap (λ n. truth b + 2 * n) plain
    ∙ (cut_more b m width also ∙ (ap (λ n. n % 2 ^ width) whole ∙ ap (λ p. (word_number bits cell * 2 ^ p) % 2 ^ width) (sym none))))

pub right_slice : (bits : List Bit) (cell places : ℕ) → 0 < length bits → 0 < places
    → word_number (take (length bits - 1) (drop 1 bits)) cell / 2 ^ (places - 1) ≡ word_number bits cell / 2 ^ places
right_slice bits cell places some also =
    right_more (bit_in (get_or bits 0 Zero) cell) (word_number (take (length bits - 1) (drop 1 bits)) cell) places also
    ∙ ap (λ n. n / 2 ^ places) (sym (first_and_rest bits Zero cell some))

-- The result of an operation on words of which there are first bits.
pub result_slices : (op : Op) (ones others made rest : List Bit) (bit first second : Bit) → 0 < length ones → 0 < length others
    → IsBitResult op (get_or ones 0 first) (get_or others 0 second) bit
    → AreResult op (take (length ones - 1) (drop 1 ones)) (take (length others - 1) (drop 1 others)) rest → made ≡ bit ∷ rest → AreResult op ones others made
result_slices op ones others made rest bit first second some also is are e = λ cell.
    ap (λ (all : List Bit). word_number all cell) e
    ∙ (result_more op (get_or ones 0 first) (get_or others 0 second) bit (take (length ones - 1) (drop 1 ones)) (take (length others - 1) (drop 1 others)) rest is are cell
    ∙ (ap (λ (all : List Bit). result_of op (word_number all cell) (word_number (get_or others 0 second ∷ take (length others - 1) (drop 1 others)) cell)) (sym (slice_parts ones first some))
    ∙ ap (λ (all : List Bit). result_of op (word_number ones cell) (word_number all cell)) (sym (slice_parts others second also))))
