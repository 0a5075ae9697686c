-- The result of a search for the first line feed.
use Rattle.std.proofs.Common.{◌≡◌, ◌≢◌, ℕ, zero, suc, ◌<◌, ◌≤◌, true, List, [], ◌∷◌, length, get_or, take, refl, arith}
use Rattle.std.proofs.lemmas.Bool.{ne_eqb}
use Rattle.bpf_asm.specs.inner.Feeds.{no_feed}

-- A prefix without a line feed.
pub searched_free : (text : List ℕ) (count : ℕ) → count ≤ length text → ((k : ℕ) → k < count → get_or text k 0 ≢ 10) → no_feed (take count text) ≡ true
searched_free text zero h none = refl
searched_free [] (suc count) h none = absurd (omega arith)
searched_free (octet ∷ rest) (suc count) h none = rw (ne_eqb octet 10 (none 0 (omega arith))) (searched_free rest count (omega arith) (λ k lt. none (suc k) (omega arith)))
