-- Tests of octets and numbers.
use Rattle.std.proofs.Common.{◌≡◌, ℕ, ◌+◌, ◌-◌, ◌<◌, ◌≤◌, Bool, true, false, ◌||◌, nat_le, ◌==◌, refl, sym, ◌∙◌, zero, suc, arith}
use Rattle.std.proofs.lemmas.Bool.{and_parts, eqb-true, leb-true}
use Rattle.std.proofs.lemmas.Bool.Decides.{nat_tests}
use Rattle.bpf_asm.specs.Numbers.{digit_of}
use Rattle.bpf_asm.specs.Tokens.{is_word}
use Rattle.text_io.specs.Words.{is_digit}

-- A digit is from 48 to 57.
pub digit_bounds : (octet : ℕ) → is_digit octet ≡ true → (48 ≤ octet) × (octet ≤ 57)
digit_bounds octet h =
    let both = and_parts (nat_le 48 octet) (nat_le octet 57) h in
    (leb-true 48 octet both.0, leb-true octet 57 both.1)

-- An octet from 48 to 57 is a digit.
pub digit_within : (octet : ℕ) → 48 ≤ octet → octet ≤ 57 → is_digit octet ≡ true
digit_within octet low high = grind (arith, nat_tests)

-- A digit is not the sign of a hexadecimal number.
pub digit_no_sign : (octet : ℕ) → is_digit octet ≡ true → (octet == 120 || octet == 88) ≡ false
digit_no_sign octet h = let b = digit_bounds octet h in grind (arith, nat_tests)

-- A digit is an octet of a word.
pub digit_word : (octet : ℕ) → is_digit octet ≡ true → is_word octet ≡ true
digit_word octet h = rw h refl

-- The value of a decimal digit.
pub digit_of-digit : (value : ℕ) → value < 10 → digit_of (48 + value) ≡ value
digit_of-digit value h =
    let d : is_digit (48 + value) ≡ true = digit_within (48 + value) (omega arith) (omega arith) in
    let e : 48 + value - 48 ≡ value = omega arith in
    rw (d, e) refl

-- A test for 0 that fails.
pub not_zero : (count : ℕ) (t : Bool) → t ≡ (count == 0) → t ≡ false → 0 < count
not_zero zero t e f = let both : true ≡ false = sym e ∙ f in cc
not_zero (suc count) t e f = omega arith

-- A test for 0 that passes.
pub is_zero : (count : ℕ) (t : Bool) → t ≡ (count == 0) → t ≡ true → count ≡ 0
is_zero count t e f = eqb-true count 0 (sym e ∙ f)
