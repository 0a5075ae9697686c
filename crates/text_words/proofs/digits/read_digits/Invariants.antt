-- Loop invariant: while all octets are digits, the list has their values, and the bitwise or of the values is below
-- 16.
use Rattle.std.proofs.Common.{◌≡◌, ℕ, ◌<◌, Some, IsSome, get_or}
use Rattle.hex.specs.Hex.{hex_digit_value}
use Rattle.text_words.proofs.digits.read_digits.Given as goal

abbrev pub invariant-loop-at : goal.invariant-loop-at
invariant-loop-at l =
    (l.seen < 16 → (k : ℕ) → k < l.at → (hex_digit_value (get_or l.word k 0) ≡ Some (get_or l.numbers k 0)) × (get_or l.numbers k 0 < 16))
    × (((k : ℕ) → k < l.at → IsSome (hex_digit_value (get_or l.word k 0))) → l.seen < 16)
