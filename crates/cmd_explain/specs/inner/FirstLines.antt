-- Octets that are enough to see the first line.
use Rattle.std.specs.Prelude.{◌≡◌, ◌⊎◌, ℕ, ◌<◌, ◌==◌, ◌||◌, Bool, true, false, List, [], ◌∷◌, length}
use Rattle.text_io.specs.Limits.{most_line_octets}

-- Whether one of the octets is a line feed.
abbrev pub has_feed : List ℕ → Bool
has_feed [] = false
has_feed (octet ∷ rest) = (octet == 10) || has_feed rest

-- The octets hold the whole first line, or more of it than a line may have.
abbrev pub HoldsFirstLine : List ℕ → Type 0
HoldsFirstLine octets = (has_feed octets ≡ true) ⊎ (most_line_octets < length octets)
