-- Loop invariant: each octet so far is that of its two values.
use Rattle.std.proofs.Common.{◌≡◌, ℕ, ◌+◌, ◌*◌, ◌<◌, get_or}
use Rattle.text_words.proofs.digits.join.Given as goal

abbrev pub invariant-loop-at : goal.invariant-loop-at
invariant-loop-at l = (k : ℕ) → k < l.at → get_or l.octets k 0 ≡ 16 * get_or l.numbers (2 * k) 0 + get_or l.numbers (2 * k + 1) 0
