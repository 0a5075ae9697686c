-- The connection's fields at a side. The virtual path is that of the interface (ITU-T I.361, clauses 2.2 and 2.3); the
-- fields after it are the same at both. Where connections are virtual paths, the channel is no part of a connection.
use Rattle.std.specs.Prelude.{ℕ, Bool, true, false, ◌/◌, ◌^◌, List}
use Rattle.upc_cell.specs.declared.side.Side.{Side}
use Rattle.upc_cell.specs.declared.side.Side.TheVariants.{Uni, Nni, UniPaths, NniPaths}
use Rattle.upc_cell.specs.Header.{header_number, vci_of, vpi_of}

-- Virtual path identifier: the eight bits after the flow control at the user network interface, and the twelve
-- highest bits between nodes of the network, where there is no flow control.
abbrev pub vpi_at : Side → List ℕ → ℕ
vpi_at Uni octets = vpi_of octets
vpi_at UniPaths octets = vpi_of octets
vpi_at Nni octets = header_number octets / 2 ^ 20
vpi_at NniPaths octets = header_number octets / 2 ^ 20

-- The highest virtual path identifier at this side.
abbrev pub last_vpi : Side → ℕ
last_vpi Uni = 255
last_vpi UniPaths = 255
last_vpi Nni = 4095
last_vpi NniPaths = 4095

-- Whether a connection is a whole virtual path (ITU-T I.311, virtual path connections).
abbrev pub has_paths : Side → Bool
has_paths Uni = false
has_paths Nni = false
has_paths UniPaths = true
has_paths NniPaths = true

-- The channel of a cell's connection: the virtual channel identifier, or 0 for all cells of a virtual path.
abbrev pub vci_at : Side → List ℕ → ℕ
vci_at Uni octets = vci_of octets
vci_at Nni octets = vci_of octets
vci_at UniPaths octets = 0
vci_at NniPaths octets = 0
