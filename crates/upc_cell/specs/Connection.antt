-- The virtual connection that a cell belongs to, and when two are the same.
use Rattle.std.specs.Prelude.{ℕ, Bool, ◌%◌, ◌&&◌, ◌==◌, List}
use Rattle.std.proofs.Math.Nat.{mod-lt, zero-lt-suc, le_of_suc-le-suc}
use Rattle.upc_cell.specs.declared.side.Side.{Side}
use Rattle.upc_cell.specs.declared.vc.Vc.{Vc}
use Rattle.upc_cell.specs.Side.{vci_at, vpi_at}

-- The path and the channel of the header, read at this side; where connections are virtual paths, the channel is 0. A
-- path read from octets is at most 4095, so the remainder changes nothing; it is there because the definition takes any
-- list of numbers.
abbrev pub vc_of : Side → List ℕ → Vc
vc_of side octets = record {
  vpi = vpi_at side octets % 4096;
  vci = vci_at side octets;
  of_an_interface = le_of_suc-le-suc (mod-lt (vpi_at side octets) (zero-lt-suc 4095));
}

-- Whether both have the same path and the same channel.
abbrev pub is_same_vc : Vc → Vc → Bool
is_same_vc one other = (one.vpi == other.vpi) && (one.vci == other.vci)
