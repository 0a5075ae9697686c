-- The place of the first line feed.
use Rattle.std.specs.Prelude.{◌≡◌, ◌≢◌, ℕ, ◌<◌, List, length, slice_index, Option, None, Some}

-- This is the place of the first line feed; None if there is none.
abbrev pub IsFirstFeed : List ℕ → Option ℕ → Type 0
IsFirstFeed octets None = (k : ℕ) → k < length octets → slice_index octets k ≢ 10
IsFirstFeed octets (Some place) =
    (place < length octets) × (slice_index octets place ≡ 10) × ((k : ℕ) → k < place → slice_index octets k ≢ 10)
