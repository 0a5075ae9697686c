-- Octets without a line feed.
use Rattle.std.specs.Prelude.{ℕ, Bool, true, not, ◌&&◌, ◌==◌, List, [], ◌∷◌}

-- Whether no octet is a line feed.
abbrev pub no_feed : List ℕ → Bool
no_feed [] = true
no_feed (octet ∷ rest) = not (octet == 10) && no_feed rest
