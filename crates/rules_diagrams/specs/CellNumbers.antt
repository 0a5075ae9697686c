-- Cells as numbers.
use Rattle.std.specs.Prelude.{ℕ, ◌+◌, ◌*◌, ◌^◌, List, [], ◌∷◌, length}

-- The number that octets spell, the first of them highest.
unfoldable pub octets_number : List ℕ → ℕ
octets_number [] = 0
octets_number (octet ∷ more) = octet * 256 ^ length more + octets_number more
