-- Loop invariant: while `found` is false, no octet so far is a line feed.
use Rattle.std.proofs.Common.{◌≡◌, ◌≢◌, ℕ, ◌<◌, false, get_or}
use Rattle.text_io.proofs.line_ends.has_early_feed.Given as goal

abbrev pub invariant-loop-at : goal.invariant-loop-at
invariant-loop-at l = l.found ≡ false → (k : ℕ) → k < l.at → get_or l.octets k 0 ≢ 10
