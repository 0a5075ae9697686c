-- The bits of a cell.
use Rattle.std.specs.Prelude.{ℕ, ◌-◌, ◌/◌, ◌%◌, ◌^◌, ◌==◌, Bool}

-- Whether a bit of a cell is set. Bit 0 is the highest bit of the first octet, bit 415 the lowest bit of the last.
unfoldable pub is_set : ℕ → ℕ → Bool
is_set cell bit = (cell / 2 ^ (415 - bit)) % 2 == 1
