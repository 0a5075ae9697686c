-- Seatings of connections, as the list of a map's entries.
use Rattle.std.specs.Prelude.{Option, Some, None, if◌then◌else◌, List, [], ◌∷◌}
use Rattle.upc_cell.specs.declared.vc.Vc.{Vc}
use Rattle.upc_cell.specs.Connection.{is_same_vc}
use Rattle.line_record.specs.declared.directory.Seating.{Seating}

-- The connection's seating in the list, if it has one.
abbrev pub seating_in : List (Vc × Seating) → Vc → Option Seating
seating_in [] vc = None
seating_in (seating ∷ later) vc = if is_same_vc vc seating.0 then Some seating.1 else seating_in later vc
