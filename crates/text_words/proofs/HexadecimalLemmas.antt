-- The octets of a word of digits.
use Rattle.std.proofs.Common.{◌≡◌, ◌≢◌, ℕ, suc, ◌+◌, ◌*◌, ◌<◌, if◌then◌else◌, List, [], ◌∷◌, ◌++◌, Some, Result, Ok, Err, length, get_or, replicate, refl, ap, ◌∙◌, arith}
use Rattle.std.specs.List.{AllPass}
use Rattle.std.specs.Result.{result_ok}
use Rattle.std.proofs.lemmas.Bool.{eq-eqb, ne_eqb}
use Rattle.hex.specs.Hex.{decode_of, decode_pairs, hex_digit_value, is_hex_digit, pair_value, ◌>>=◌}
use Rattle.hex.proofs.HexLemmas.{decode_of-even, decode_of-ok}
use Rattle.hex.specs.declared.error.FromHexError.{FromHexError}
use Rattle.text_words.specs.Hexadecimal.{octets_of_digits, cell_of_octets}
use Rattle.text_words.specs.inner.DigitNumbers.{AreDigitsOf, AreJoined, AreNumbers}

-- A result that is Ok.
ok-part : (d : Result (List ℕ) FromHexError) (xs : List ℕ) → result_ok d ≡ Some xs → d ≡ Ok xs
ok-part (Ok ys) xs e = let same : ys ≡ xs = cc in ap Ok same
ok-part (Err e') xs e = cc

-- Two digits an octet.
pub spelled-length : (word octets : List ℕ) → octets_of_digits word ≡ Some octets → length word ≡ 2 * length octets
spelled-length word octets e = (decode_of-ok word octets (ok-part (decode_of word) octets e)).2

-- Each character is a digit.
pub spelled-digits : (word octets : List ℕ) → octets_of_digits word ≡ Some octets → AllPass is_hex_digit word
spelled-digits word octets e = (decode_of-ok word octets (ok-part (decode_of word) octets e)).1

-- A header is a cell with a payload of zeros.
pub cell-of_header : (octets : List ℕ) → length octets ≡ 4 → cell_of_octets octets ≡ octets ++ replicate 48 0
cell-of_header octets sized = ap (λ b. if b then octets ++ replicate 48 0 else octets) (eq-eqb (length octets) 4 sized)

pub cell-of_other : (octets : List ℕ) → length octets ≢ 4 → cell_of_octets octets ≡ octets
cell-of_other octets sized = ap (λ b. if b then octets ++ replicate 48 0 else octets) (ne_eqb (length octets) 4 sized)

-- Two digits before a word that decodes.
decode-more : (i high low octet : ℕ) (rest octets : List ℕ) → AreDigitsOf high low octet → decode_pairs (i + 2) rest ≡ Ok octets
    → decode_pairs i (high ∷ low ∷ rest) ≡ Ok (octet ∷ octets)
unfolding decode_pairs
decode-more i high low octet rest octets digits later =
    let first = digits.2 in
    let second = digits.3 in
    let pair : pair_value high low i ≡ Ok (digits.0 * 16 + digits.1) = rw (first, second) refl in
    let sum : digits.0 * 16 + digits.1 ≡ octet = omega (arith, digits.4) in
    ap (λ (r : Result ℕ FromHexError). r >>= (λ byte. decode_pairs (i + 2) rest >>= (λ bytes. Ok (byte ∷ bytes)))) pair
    ∙ ap (λ (r : Result (List ℕ) FromHexError). r >>= (λ bytes. Ok ((digits.0 * 16 + digits.1) ∷ bytes))) later
    ∙ ap (λ n. Ok (n ∷ octets)) sum

decode-none : (i : ℕ) → decode_pairs i [] ≡ Ok []
unfolding decode_pairs
decode-none i = refl

-- The values of the digits, joined in pairs, are the octets of the word.
pairs-joined : (i : ℕ) (word : List ℕ) (number : ℕ → ℕ) (octets : List ℕ) → length word ≡ 2 * length octets
    → ((k : ℕ) → k < length word → hex_digit_value (get_or word k 0) ≡ Some (number k))
    → ((k : ℕ) → k < length octets → get_or octets k 0 ≡ 16 * number (2 * k) + number (2 * k + 1))
    → decode_pairs i word ≡ Ok octets
pairs-joined i [] number [] sized reads joined = decode-none i
pairs-joined i [] number (octet ∷ octets) sized reads joined = absurd (omega arith)
pairs-joined i (a ∷ []) number octets sized reads joined = absurd (omega arith)
pairs-joined i (a ∷ b ∷ rest) number [] sized reads joined = absurd (omega arith)
pairs-joined i (a ∷ b ∷ rest) number (octet ∷ octets) sized reads joined =
    let digits : AreDigitsOf a b octet = (number 0, number 1, reads 0 (omega arith), reads 1 (omega arith), joined 0 (omega arith)) in
    decode-more i a b octet rest octets digits
    (pairs-joined (i + 2) rest (λ k. number (suc (suc k))) octets (omega arith)
    (λ k below. reads (suc (suc k)) (omega arith))
    (λ k below.
    let high : 2 * suc k ≡ suc (suc (2 * k)) = omega arith in
    let low : 2 * suc k + 1 ≡ suc (suc (2 * k + 1)) = omega arith in
    let told = joined (suc k) (omega arith) in
    told ∙ cc))

-- Eight digits are four octets.
pub four-spelled : (word : List ℕ) (a b c d : ℕ) → length word ≡ 8
    → AreDigitsOf (get_or word 0 0) (get_or word 1 0) a → AreDigitsOf (get_or word 2 0) (get_or word 3 0) b
    → AreDigitsOf (get_or word 4 0) (get_or word 5 0) c → AreDigitsOf (get_or word 6 0) (get_or word 7 0) d
    → octets_of_digits word ≡ Some (a ∷ b ∷ c ∷ d ∷ [])
four-spelled (o ∷ p ∷ q ∷ r ∷ s ∷ t ∷ u ∷ v ∷ []) a b c d sized first second third fourth =
    ap result_ok (decode_of-even (o ∷ p ∷ q ∷ r ∷ s ∷ t ∷ u ∷ v ∷ []) refl
    ∙ decode-more 0 o p a (q ∷ r ∷ s ∷ t ∷ u ∷ v ∷ []) (b ∷ c ∷ d ∷ []) first
    (decode-more 2 q r b (s ∷ t ∷ u ∷ v ∷ []) (c ∷ d ∷ []) second
    (decode-more 4 s t c (u ∷ v ∷ []) (d ∷ []) third (decode-more 6 u v d [] [] fourth (decode-none 8)))))
four-spelled _ a b c d sized first second third fourth = absurd (omega arith)

pub joined-spelled : (word numbers octets : List ℕ) → length word ≡ 2 * length octets → AreNumbers word numbers → AreJoined numbers octets
    → octets_of_digits word ≡ Some octets
joined-spelled word numbers octets sized reads joined =
    ap result_ok (decode_of-even word (omega arith)
    ∙ pairs-joined 0 word (λ k. get_or numbers k 0) octets sized (λ k below. (reads k below).0) joined)
