-- The connection of a cell where connections are virtual paths.
use Rattle.std.proofs.Common.{◌≡◌, ◌%◌, ℕ, Bool, true, false, List, refl, ap}
use Rattle.upc_cell.proofs.Public.{vc_is}
use Rattle.upc_cell.specs.Connection.{vc_of}
use Rattle.upc_cell.specs.declared.side.Side.TheVariants.{Uni, Nni, UniPaths, NniPaths}
use Rattle.cmd_run.specs.PathLaws.{PathsAreConnections}

pub paths_are_connections : PathsAreConnections
paths_are_connections Uni one other paths same = let no : false ≡ true = paths in absurd (cc)
paths_are_connections Nni one other paths same = let no : false ≡ true = paths in absurd (cc)
paths_are_connections UniPaths one other paths same = vc_is (vc_of UniPaths one) (vc_of UniPaths other) (ap (λ n. n % 4096) same) refl
paths_are_connections NniPaths one other paths same = vc_is (vc_of NniPaths one) (vc_of NniPaths other) (ap (λ n. n % 4096) same) refl
