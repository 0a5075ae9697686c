-- Decimal numbers are read back.
use Rattle.std.proofs.Common.{◌≡◌, ℕ, ◌+◌, ◌*◌, ◌/◌, ◌%◌, ◌^◌, ◌<◌, ◌≤◌, Bool, true, false, ◌&&◌, ◌||◌, ◌==◌, nat_lt, if◌then◌else◌, List, [], ◌∷◌, ◌++◌, Some, None, decimal, refl, ap, ◌∙◌, arith}
use Rattle.std.proofs.lemmas.Bool.{and_from, and_parts, and_right, lt-ltb}
use Rattle.std.proofs.lemmas.Fmt.{decimal_by_steps}
use Rattle.bpf_asm.specs.Numbers.{digit_of, number_of_word, value_after, value_of, within_word}
use Rattle.bpf_asm.specs.Tokens.{name, number, tokens_of, word_token}
use Rattle.text_io.specs.Words.{is_digit}
use Rattle.bpf_asm.specs.inner.WordRuns.{all_word}
use Rattle.bpf_asm.proofs.octets.Pieces.{tokens_of-word}
use Rattle.bpf_asm.proofs.octets.OctetTests.{digit_no_sign, digit_of-digit, digit_within, digit_word}

-- One more digit.
value_after-snoc : (base high : ℕ) (digits : List ℕ) (octet value : ℕ) → value_after base high digits ≡ Some value → nat_lt (digit_of octet) base ≡ true → value_after base high (digits ++ octet ∷ []) ≡ Some (value * base + digit_of octet)
unfolding value_after
value_after-snoc base high [] octet value e h = let same : high ≡ value = cc in rw (h, same) refl
value_after-snoc base high (first ∷ digits) octet value e h =
    elim (nat_lt (digit_of first) base) as (λ t. (if t then value_after base (high * base + digit_of first) digits else None) ≡ Some value → (if t then value_after base (high * base + digit_of first) (digits ++ octet ∷ []) else None) ≡ Some (value * base + digit_of octet))
    [ true ↦ λ f. value_after-snoc base (high * base + digit_of first) digits octet value f h | false ↦ λ f. cc ] e

-- Every octet is a digit.
abbrev pub all_digit : List ℕ → Bool
all_digit [] = true
all_digit (octet ∷ rest) = is_digit octet && all_digit rest

all_digit-snoc : (digits : List ℕ) (octet : ℕ) → all_digit digits ≡ true → is_digit octet ≡ true → all_digit (digits ++ octet ∷ []) ≡ true
all_digit-snoc [] octet a h = rw h refl
all_digit-snoc (first ∷ digits) octet a h =
    let both = and_parts (is_digit first) (all_digit digits) a in
    and_from _ _ both.0 (all_digit-snoc digits octet both.1 h)

digits_word : (digits : List ℕ) → all_digit digits ≡ true → all_word digits ≡ true
digits_word [] a = refl
digits_word (first ∷ digits) a =
    let both = and_parts (is_digit first) (all_digit digits) a in
    and_from _ _ (digit_word first both.0) (digits_word digits both.1)

-- One or more decimal digits with this value.
abbrev pub IsDecimal : ℕ → List ℕ → Type 0
IsDecimal value [] = ⊥
IsDecimal value (octet ∷ rest) = (value_after 10 0 (octet ∷ rest) ≡ Some value) × (all_digit (octet ∷ rest) ≡ true)

one_decimal : (value : ℕ) → value < 10 → IsDecimal value ((48 + value) ∷ [])
unfolding value_after
one_decimal value h =
    let v = digit_of-digit value h in
    let l : nat_lt value 10 ≡ true = lt-ltb value 10 h in
    let z : 0 * 10 + value ≡ value = omega arith in
    let d : is_digit (48 + value) ≡ true = digit_within (48 + value) (omega arith) (omega arith) in
    (rw (v, l, z) refl, rw d refl)

more_decimal : (value : ℕ) (digits : List ℕ) → 10 ≤ value → IsDecimal (value / 10) digits → IsDecimal value (digits ++ (48 + value % 10) ∷ [])
more_decimal value [] h d = absurd d
more_decimal value (octet ∷ rest) h d =
    let low : value % 10 < 10 = omega arith in
    let v = digit_of-digit (value % 10) low in
    let l : nat_lt (digit_of (48 + value % 10)) 10 ≡ true = rw v (lt-ltb (value % 10) 10 low) in
    let e : value / 10 * 10 + digit_of (48 + value % 10) ≡ value = rw v (omega arith) in
    let digit : is_digit (48 + value % 10) ≡ true = digit_within (48 + value % 10) (omega arith) (omega arith) in
    (value_after-snoc 10 0 (octet ∷ rest) (48 + value % 10) (value / 10) d.0 l ∙ ap (λ (n : ℕ). Some n) e, all_digit-snoc (octet ∷ rest) (48 + value % 10) d.1 digit)

-- The decimal digits of a number.
pub decimal_digits : (value : ℕ) → value < 2 ^ 64 → IsDecimal value (decimal value)
decimal_digits value h = decimal_by_steps IsDecimal one_decimal more_decimal value h

-- Such digits aren't a hexadecimal number.
value_of-digits : (value : ℕ) (digits : List ℕ) → IsDecimal value digits → value_of digits ≡ Some value
value_of-digits value [] d = absurd d
value_of-digits value (octet ∷ []) d = d.0
value_of-digits value (octet ∷ next ∷ rest) d =
    let both = and_parts (is_digit octet) (is_digit next && all_digit rest) d.1 in
    let inner = and_parts (is_digit next) (all_digit rest) both.1 in
    let no : (octet == 48 && (next == 120 || next == 88)) ≡ false = and_right (octet == 48) _ (digit_no_sign next inner.0) in
    rw no d.0

number_token-digits : (value : ℕ) (digits : List ℕ) → value < 2 ^ 32 → IsDecimal value digits → tokens_of digits ≡ number value ∷ []
unfolding number_of_word word_token
number_token-digits value [] h d = absurd d
number_token-digits value (octet ∷ rest) h d =
    let both = and_parts (is_digit octet) (all_digit rest) d.1 in
    let l : nat_lt value (2 ^ 32) ≡ true = lt-ltb value (2 ^ 32) h in
    let v = value_of-digits value (octet ∷ rest) d in
    let n : number_of_word (octet ∷ rest) ≡ Some value = ap within_word v ∙ rw l refl in
    tokens_of-word octet rest (digits_word (octet ∷ rest) d.1) ∙ rw (both.0, n) refl

-- A number of 32 bits in decimal is its token.
pub tokens_of-decimal : (value : ℕ) → value < 2 ^ 32 → tokens_of (decimal value) ≡ number value ∷ []
tokens_of-decimal value h = number_token-digits value (decimal value) h (decimal_digits value (omega arith))

decimal_all : (value : ℕ) (digits : List ℕ) → IsDecimal value digits → all_digit digits ≡ true
decimal_all value [] d = refl
decimal_all value (octet ∷ rest) d = d.1

label_word : (value : ℕ) (digits : List ℕ) → IsDecimal value digits → tokens_of (76 ∷ digits) ≡ name (76 ∷ digits) ∷ []
unfolding word_token
label_word value digits d =
    tokens_of-word 76 digits (digits_word digits (decimal_all value digits d))

-- The label of a place is a name.
pub tokens_of-label : (place : ℕ) → place < 2 ^ 64 → tokens_of (76 ∷ decimal place) ≡ name (76 ∷ decimal place) ∷ []
tokens_of-label place h = label_word place (decimal place) (decimal_digits place h)

-- The digits of a number are octets of words.
pub decimal_word : (value : ℕ) → value < 2 ^ 64 → all_word (decimal value) ≡ true
decimal_word value h = digits_word (decimal value) (decimal_all value (decimal value) (decimal_digits value h))
