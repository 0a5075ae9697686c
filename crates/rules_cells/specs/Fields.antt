-- The numbers of a cell (ITU-T I.361, clauses 2.2 and 2.3), and what they are compared with. A cell is the list of its
-- octets.
use Rattle.std.specs.Prelude.{◌≡◌, ◌<◌, ℕ, Bool, not, ◌==◌, nat_le, nat_lt, List, ◌∷◌, length, drop, slice_index}
use Rattle.byteorder.specs.Endian.{big_number}
use Rattle.bpf_interp.specs.Packet.{octets_loaded}
use Rattle.rules_code.specs.PlainTests.{is_among}
use Rattle.upc_cell.specs.Header.{gfc_of, vci_of, pti_of, clp_of}
use Rattle.upc_cell.specs.Side.{vpi_at}
use Rattle.upc_cell.specs.declared.side.Side.{Side}
use Rattle.rules_cells.specs.declared.field.Field.{Field}
use Rattle.rules_cells.specs.declared.field.Field.TheVariants.{Gfc, Vpi, Vci, Pti, Clp, Octets}
use Rattle.rules_cells.specs.declared.relation.Relation.{Relation}
use Rattle.rules_cells.specs.declared.relation.Relation.TheVariants.{Equal, Unequal, Less, AtMost, Greater, AtLeast, In}

-- The octets of a cell: 52, each less than 256.
pub record IsCell (cell : List ℕ) : Type 0 where
  pub whole : length cell ≡ 52
  pub octets : (place : ℕ) → slice_index cell place < 256

-- The number that a field has in a cell, the header read at this side.
abbrev pub number_in : Side → Field → List ℕ → ℕ
number_in side Gfc cell = gfc_of cell
number_in side Vpi cell = vpi_at side cell
number_in side Vci cell = vci_of cell
number_in side Pti cell = pti_of cell
number_in side Clp cell = clp_of cell
number_in side (Octets octets) cell = big_number (octets_loaded octets.size) (drop octets.at cell)

-- Whether a number is as the relation says.
abbrev pub is_so : Relation → ℕ → Bool
is_so (Equal k) number = number == k
is_so (Unequal k) number = not (number == k)
is_so (Less k) number = nat_lt number k
is_so (AtMost k) number = nat_le number k
is_so (Greater k) number = nat_lt k number
is_so (AtLeast k) number = nat_le k number
is_so (In first others) number = is_among (first ∷ others.items) number
