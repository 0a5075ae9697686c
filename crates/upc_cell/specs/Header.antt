-- The header of a cell at the user network interface, without its check octet (ITU-T I.361, clause 2.2).
-- A cell is the list of its octets. The fields are arithmetic on the number that its first four octets spell.
use Rattle.std.specs.Prelude.{ℕ, Bool, ◌+◌, ◌*◌, ◌/◌, ◌%◌, ◌^◌, ◌==◌, List, slice_index}

-- The number of octets 0 to 3, octet 0 highest.
abbrev pub header_number : List ℕ → ℕ
header_number octets =
    slice_index octets 0 * 2 ^ 24 + slice_index octets 1 * 2 ^ 16 + slice_index octets 2 * 2 ^ 8 + slice_index octets 3

-- Generic flow control: the four highest bits.
abbrev pub gfc_of : List ℕ → ℕ
gfc_of octets = header_number octets / 2 ^ 28

-- Virtual path identifier: the next eight bits.
abbrev pub vpi_of : List ℕ → ℕ
vpi_of octets = (header_number octets / 2 ^ 20) % 2 ^ 8

-- Virtual channel identifier: the next sixteen bits.
abbrev pub vci_of : List ℕ → ℕ
vci_of octets = (header_number octets / 2 ^ 4) % 2 ^ 16

-- Payload type: the next three bits.
abbrev pub pti_of : List ℕ → ℕ
pti_of octets = (header_number octets / 2) % 8

-- Cell loss priority: the lowest bit.
abbrev pub clp_of : List ℕ → ℕ
clp_of octets = header_number octets % 2

-- The same bit as a truth value: true for a cell of low priority (bit 1).
abbrev pub has_low_priority : List ℕ → Bool
has_low_priority octets = clp_of octets == 1
