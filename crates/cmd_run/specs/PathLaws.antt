-- What is proved of cards whose connections are virtual paths.
use Rattle.std.specs.Prelude.{◌≡◌, ℕ, true, List}
use Rattle.upc_cell.specs.Connection.{vc_of}
use Rattle.upc_cell.specs.Side.{has_paths, vpi_at}
use Rattle.upc_cell.specs.declared.side.Side.{Side}

-- Cells of one path belong to one connection, whatever their channels. So a cell of any channel is judged on the connection of its path.
abbrev pub PathsAreConnections : Type 0
PathsAreConnections = (side : Side) (one other : List ℕ) → has_paths side ≡ true
    → vpi_at side one ≡ vpi_at side other → vc_of side one ≡ vc_of side other
