-- How digits are read.
use Rattle.std.proofs.Common.{◌≡◌, ◌≢◌, ℕ, zero, suc, ◌+◌, ◌-◌, ◌*◌, ◌%◌, ◌<◌, ◌≤◌, ◌==◌, nat_lt, if◌then◌else◌, ◌&&◌, T, eqb, eqb→eq, eq-zero-or-pos, inl, inr, Bool, true, false, List, [], ◌∷◌, Option, Some, None, IsSome, not, length, get_or, set, ap, sym, subst, arith, below_more, get_or-set_other, get_or-set_same, bit_or, refl}
use Rattle.std.proofs.lemmas.List.Elements.{All-get_or}
use Rattle.std.proofs.lemmas.Bool.{lt-ltb, le-ltb}
use Rattle.std.proofs.lemmas.Nat.{le_or_l, le_or_r, or_lt}
use lib.Ieee.Fits.{and_l, and_r}
use Rattle.hex.specs.Hex.{hex_digit_value, is_hex_digit}
use Rattle.text_io.specs.Words.{is_blank}
use Rattle.text_words.specs.Hexadecimal.{cell_of_octets, octets_of_digits}
use Rattle.text_words.specs.CellWord.{IsCellWord}
use Rattle.text_words.specs.inner.DigitNumbers.{AreDigitsOf}
use Rattle.text_words.specs.declared.digits.TheConstants.{NUMBERS}
use Rattle.text_words.specs.declared.hexadecimal.CellWord.TheVariants.{OfCell}
use Rattle.text_words.proofs.HexadecimalLemmas.{spelled-length, spelled-digits}

-- One more digit is read.
pub read-more : (word numbers : List ℕ) (at number seen : ℕ) → at < length numbers
    → (number < 16 → hex_digit_value (get_or word at 0) ≡ Some number)
    → (seen < 16 → (k : ℕ) → k < at → (hex_digit_value (get_or word k 0) ≡ Some (get_or numbers k 0)) × (get_or numbers k 0 < 16))
    → bit_or seen number < 16
    → (k : ℕ) → k < at + 1 → (hex_digit_value (get_or word k 0) ≡ Some (get_or (set numbers at number) k 0)) × (get_or (set numbers at number) k 0 < 16)
read-more word numbers at number seen within one before small =
    let low = le_or_l seen number in
    let high = le_or_r seen number in
    let digit : number < 16 = omega arith in
    let earlier : seen < 16 = omega arith in
    below_more _ at
    (λ k below. let other : k ≢ at = omega arith in rw (get_or-set_other numbers at k number 0 other) (before earlier k below))
    (rw (get_or-set_same numbers at number 0 within) (one digit, digit))

-- If it and all before are digits, the bitwise or of the values is below 16.
pub digits-more : (word : List ℕ) (at number seen : ℕ)
    → (IsSome (hex_digit_value (get_or word at 0)) → number < 16)
    → (((k : ℕ) → k < at → IsSome (hex_digit_value (get_or word k 0))) → seen < 16)
    → ((k : ℕ) → k < at + 1 → IsSome (hex_digit_value (get_or word k 0))) → bit_or seen number < 16
digits-more word at number seen one before digits = or_lt 4 seen number (before (λ k below. digits k (omega arith))) (one (digits at (omega arith)))

hex-value-small : (c v : ℕ) → hex_digit_value c ≡ Some v → v < 16
hex-value-small c v h = grind (arith)

-- The table's entry: the value of a digit, and 256 for any other octet.
abbrev number_or_none : Option ℕ → ℕ
number_or_none (Some number) = number
number_or_none None = 256

abbrev are_numbers : ℕ → Bool
are_numbers zero = true
are_numbers (suc n) = eqb (get_or NUMBERS n 0) (number_or_none (hex_digit_value n)) && are_numbers n

number-below : (n c : ℕ) → T (are_numbers n) → c < n → get_or NUMBERS c 0 ≡ number_or_none (hex_digit_value c)
number-below zero c t below = absurd (omega arith)
number-below (suc n) c t below =
    elim (eq-zero-or-pos (n - c)) [
      | inl last ↦ let e : c ≡ n = omega arith in rw e (eqb→eq _ _ (and_l _ (are_numbers n) t))
      | inr more ↦ number-below n c (and_r _ (are_numbers n) t) (omega arith)
    ]

number-at : (c : ℕ) → c < 256 → get_or NUMBERS c 0 ≡ number_or_none (hex_digit_value c)
number-at c below = number-below 256 c tt below

number-of : (c number : ℕ) (found : Option ℕ) → number ≡ number_or_none found → number < 256 → found ≡ Some number
number-of c number (Some value) same small = ap Some (sym same)
number-of c number None same small = absurd (omega arith)

pub digits-of : (first second : ℕ) → first < 256 → second < 256 → 16 * get_or NUMBERS first 0 + get_or NUMBERS second 0 < 256
    → AreDigitsOf first second (16 * get_or NUMBERS first 0 + get_or NUMBERS second 0)
digits-of first second below low small = (
  get_or NUMBERS first 0,
  get_or NUMBERS second 0,
  number-of first (get_or NUMBERS first 0) (hex_digit_value first) (number-at first below) (omega arith),
  number-of second (get_or NUMBERS second 0) (hex_digit_value second) (number-at second low) (omega arith),
  refl,
)

number-of_some : (c : ℕ) (found : Option ℕ) → hex_digit_value c ≡ found → IsSome found → number_or_none found < 16
number-of_some c (Some value) e some = hex-value-small c value e
number-of_some c None e some = absurd cc

digit-number : (c : ℕ) → c < 256 → IsSome (hex_digit_value c) → get_or NUMBERS c 0 < 16
digit-number c below digit = omega (arith, number-at c below, number-of_some c (hex_digit_value c) refl digit)

pub digits-small : (first second : ℕ) → first < 256 → second < 256 → IsSome (hex_digit_value first) → IsSome (hex_digit_value second)
    → 16 * get_or NUMBERS first 0 + get_or NUMBERS second 0 < 256
digits-small first second below low one other = omega (arith, digit-number first below one, digit-number second low other)

-- The bitwise or of four numbers is an octet exactly if each is.
pub all-octets : (a b c d : ℕ) → bit_or (bit_or (bit_or a b) c) d < 256 → (a < 256) × (b < 256) × (c < 256) × (d < 256)
all-octets a b c d small =
    let one = le_or_l a b in
    let two = le_or_r a b in
    let three = le_or_l (bit_or a b) c in
    let four = le_or_r (bit_or a b) c in
    let front = le_or_l (bit_or (bit_or a b) c) d in
    let last = le_or_r (bit_or (bit_or a b) c) d in
    (omega arith, omega arith, omega arith, omega arith)

pub octets-all : (a b c d : ℕ) → (a < 256) × (b < 256) × (c < 256) × (d < 256) → bit_or (bit_or (bit_or a b) c) d < 256
octets-all a b c d small = or_lt 8 (bit_or (bit_or a b) c) d (or_lt 8 (bit_or a b) c (or_lt 8 a b small.0 small.1) small.2) small.3

number-small : (found : Option ℕ) (c : ℕ) → hex_digit_value c ≡ found → number_or_none found ≤ 256
number-small (Some value) c e = omega (arith, hex-value-small c value e)
number-small None c e = omega arith

pub number-at_most : (c : ℕ) → c < 256 → get_or NUMBERS c 0 ≤ 256
number-at_most c below = let h = number-small (hex_digit_value c) c refl in omega (arith, number-at c below)

-- A decimal digit, by its distance from `0`.
pub figure-read : (c : ℕ) → c < 256 → (c + 208) % 256 < 10 → hex_digit_value c ≡ Some ((c + 208) % 256)
figure-read c below small =
    let low : 48 ≤ c = omega arith in
    let high : c ≤ 57 = omega arith in
    let number : (c + 208) % 256 ≡ c - 48 = omega arith in
    rw number (grind arith)

-- A letter, by its distance from `a`, for each octet.
abbrev letter_at : ℕ → ℕ
letter_at c = (bit_or c 32 + 159) % 256

abbrev are_letters : ℕ → Bool
are_letters zero = true
are_letters (suc n) = (if nat_lt (letter_at n) 6 then eqb (number_or_none (hex_digit_value n)) (letter_at n + 10) else true) && are_letters n

letter-below : (n c : ℕ) → T (are_letters n) → c < n → letter_at c < 6 → number_or_none (hex_digit_value c) ≡ letter_at c + 10
letter-below zero c t below small = absurd (omega arith)
letter-below (suc n) c t below small =
    elim (eq-zero-or-pos (n - c)) [
      | inl last ↦
          let e : n ≡ c = omega arith in
          let here : T (if nat_lt (letter_at c) 6 then eqb (number_or_none (hex_digit_value c)) (letter_at c + 10) else true) =
          subst (λ (m : ℕ). T (if nat_lt (letter_at m) 6 then eqb (number_or_none (hex_digit_value m)) (letter_at m + 10) else true)) e (and_l _ (are_letters n) t) in
          let P : Bool → Type 0 = λ b. T (if b then eqb (number_or_none (hex_digit_value c)) (letter_at c + 10) else true) in
          eqb→eq _ _ (subst P (lt-ltb (letter_at c) 6 small) here)
      | inr more ↦ letter-below n c (and_r _ (are_letters n) t) (omega arith) small
    ]

pub letter-read : (c : ℕ) → c < 256 → (bit_or c 32 + 159) % 256 < 6 → hex_digit_value c ≡ Some ((bit_or c 32 + 159) % 256 + 10)
letter-read c below small = number-of c ((bit_or c 32 + 159) % 256 + 10) (hex_digit_value c) (sym (letter-below 256 c tt below small)) (omega arith)

-- An octet that is neither is no digit, for each octet.
abbrev is_other : ℕ → Bool
is_other c = if nat_lt ((c + 208) % 256) 10 then true else if nat_lt (letter_at c) 6 then true else not (is_hex_digit c)

abbrev are_others : ℕ → Bool
are_others zero = true
are_others (suc n) = is_other n && are_others n

other-below : (n c : ℕ) → T (are_others n) → c < n → T (is_other c)
other-below zero c t below = absurd (omega arith)
other-below (suc n) c t below =
    elim (eq-zero-or-pos (n - c)) [
      | inl last ↦ let e : n ≡ c = omega arith in subst (λ (m : ℕ). T (is_other m)) e (and_l _ (are_others n) t)
      | inr more ↦ other-below n c (and_r _ (are_others n) t) (omega arith)
    ]

pub other-read : (c : ℕ) → c < 256 → 10 ≤ (c + 208) % 256 → 6 ≤ (bit_or c 32 + 159) % 256 → IsSome (hex_digit_value c) → ⊥
other-read c below figure letter digit =
    let Letter : Bool → Type 0 = λ b. T (if b then true else not (is_hex_digit c)) in
    let Figure : Bool → Type 0 = λ b. T (if b then true else if nat_lt (letter_at c) 6 then true else not (is_hex_digit c)) in
    let Digit : Bool → Type 0 = λ b. T (not b) in
    subst Digit digit (subst Letter (le-ltb (letter_at c) 6 letter) (subst Figure (le-ltb ((c + 208) % 256) 10 figure) (other-below 256 c tt below)))

-- A digit is neither a blank nor `#`.
digit-visible : (c : ℕ) → is_hex_digit c ≡ true → (is_blank c ≡ false) × ((c == 35) ≡ false)
digit-visible c digit = (grind arith, grind arith)

pub digits-visible : (word octets : List ℕ) → octets_of_digits word ≡ Some octets → (k : ℕ) → k < length word
    → (is_blank (get_or word k 0) ≡ false) × ((get_or word k 0 == 35) ≡ false)
digits-visible word octets spelled k below =
    digit-visible (get_or word k 0) (All-get_or (λ c. is_hex_digit c ≡ true) word k 0 below (spelled-digits word octets spelled))

pub filled : (octets cell : List ℕ) → cell_of_octets octets ≡ cell → length cell ≡ 52 → 0 < length octets
filled [] cell same sized = let none : 0 ≡ length cell = ap length same in absurd (omega arith)
filled (octet ∷ octets) cell same sized = omega arith

-- A word that spells a cell isn't empty and has no blank.
pub cell-visible : (word cell : List ℕ) → IsCellWord word (OfCell cell)
    → (0 < length word) × ((k : ℕ) → k < length word → is_blank (get_or word k 0) ≡ false)
cell-visible word cell is =
    let octets : List ℕ = is.0 in
    let some : 0 < length word = omega (arith, spelled-length word octets is.1, filled octets cell is.2 is.3) in
    (some, λ k below. (digits-visible word octets is.1 k below).0)
