-- The header of a cell, as C gets it.
use Rattle.std.specs.Prelude.{◌≡◌, ◌≢◌, ◌⊎◌, ◌<◌, ℕ, List, length}
use Rattle.upc_cell.specs.Header.{gfc_of, vci_of, pti_of, clp_of}
use Rattle.upc_cell.specs.Side.{vpi_at}
use Rattle.upc_cell.specs.declared.side.Side.{Side}
use Rattle.upc_cell.specs.declared.side.Side.TheVariants.{Uni, Nni, UniPaths, NniPaths}
use Rattle.upc_c.specs.Faults.{plain_fault, unknown_side}
use Rattle.upc_c.specs.declared.cell.UpcFields.{UpcFields}
use Rattle.upc_c.specs.declared.fault.UpcFault.{UpcFault}

-- The number of a side in C.
abbrev pub side_number : Side → ℕ
side_number Uni = 0
side_number Nni = 1
side_number UniPaths = 2
side_number NniPaths = 3

-- Generic flow control, which only the user network interface has. Otherwise 0.
abbrev pub gfc_at : Side → List ℕ → ℕ
gfc_at Uni octets = gfc_of octets
gfc_at Nni octets = 0
gfc_at UniPaths octets = gfc_of octets
gfc_at NniPaths octets = 0

-- The fields of a header, read at this side.
abbrev pub fields_at : Side → List ℕ → UpcFields
fields_at side octets = record {
  vpi = vpi_at side octets;
  vci = vci_of octets;
  gfc = gfc_at side octets;
  pti = pti_of octets;
  clp = clp_of octets;
}

-- The octets aren't a cell: cell 1 WrongLength, with their number.
abbrev pub IsCellFault : List ℕ → UpcFault → Type 0
IsCellFault octets fault = (length octets ≢ 52) × (fault ≡ plain_fault 2 1 (length octets))

-- The error if there are no fields: the octets aren't a cell; else the side is unknown.
abbrev pub IsFieldsFault : List ℕ → ℕ → UpcFault → Type 0
IsFieldsFault octets side fault =
    IsCellFault octets fault ⊎ ((length octets ≡ 52) × (3 < side) × (fault ≡ unknown_side))
