-- Values of digits, and the octets of these values.
use Rattle.std.specs.Prelude.{◌≡◌, ℕ, ◌+◌, ◌*◌, ◌<◌, List, length, slice_index, Some, IsSome}
use Rattle.hex.specs.Hex.{hex_digit_value}

-- Each octet of the word is a hexadecimal digit.
abbrev pub AreDigits : List ℕ → Type 0
AreDigits word = (k : ℕ) → k < length word → IsSome (hex_digit_value (slice_index word k))

-- Each octet of the word is a digit, and the list has its value at the same place.
abbrev pub AreNumbers : List ℕ → List ℕ → Type 0
AreNumbers word numbers =
    (k : ℕ) → k < length word → (hex_digit_value (slice_index word k) ≡ Some (slice_index numbers k)) × (slice_index numbers k < 16)

-- Each octet is 16 times the value of its first digit plus the value of its second.
abbrev pub AreJoined : List ℕ → List ℕ → Type 0
AreJoined numbers octets =
    (k : ℕ) → k < length octets → slice_index octets k ≡ 16 * slice_index numbers (2 * k) + slice_index numbers (2 * k + 1)

-- Two digits spell the octet.
abbrev pub AreDigitsOf : ℕ → ℕ → ℕ → Type 0
AreDigitsOf first second octet =
    (high : ℕ) × (low : ℕ) × (hex_digit_value first ≡ Some high) × (hex_digit_value second ≡ Some low) × (octet ≡ 16 * high + low)
