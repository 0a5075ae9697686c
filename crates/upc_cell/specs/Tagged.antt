-- The tagged form of a cell: the same octets, but cell loss priority 1 (ITU-T I.371, tagging).
use Rattle.std.specs.Prelude.{ℕ, ◌+◌, ◌*◌, ◌/◌, List, slice_index, slice_set}

-- Octet 3 keeps its seven high bits; its lowest bit, the cell loss priority, is 1.
abbrev pub tagged_form : List ℕ → List ℕ
tagged_form octets = slice_set octets 3 (2 * (slice_index octets 3 / 2) + 1)
