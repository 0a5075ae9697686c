-- The ports of a core.
use Rattle.std.specs.Prelude.{◌≡◌, ℕ, ◌<◌, ◌≤◌, Bool, true, false, List, length, map, Option, Some, None, slice_get}
use Rattle.card_core.specs.declared.port.Port.{Port}
use Rattle.card_core.specs.declared.port.Port.TheVariants.{Outside, Entered, Picked}
use Rattle.card_core.specs.declared.port.Came.{Came}
use Rattle.card_core.specs.declared.port.Found.{Found}
use Rattle.card_core.specs.World.{PortState, Picking, outside, entered, picked}
use Rattle.line_record.specs.Directory.{DirectoryView}
use Rattle.line_record.specs.Line.{LineView}

-- A picked cell as the world has it.
abbrev pub found_picking : Found → Picking
found_picking found = record {
  cell = found.named.cell;
  moment = found.moment;
  vc = found.vc;
  incarnation = found.seating.incarnation;
  line = found.seating.line;
  program = found.named.program;
  value = found.named.value;
}

-- The state of a port in the world.
abbrev pub port_state_of : Port → PortState
port_state_of Outside = outside
port_state_of (Entered came) = entered came.cell came.moment
port_state_of (Picked found) = picked (found_picking found)

-- The states of all ports.
abbrev pub states_of : List Port → List PortState
states_of ports = map port_state_of ports

-- Whether the port has no cell.
abbrev pub is_free_port : Port → Bool
is_free_port Outside = true
is_free_port (Entered came) = false
is_free_port (Picked found) = false

-- Whether there is such a port, and it has no cell.
abbrev pub is_idle : Option Port → Bool
is_idle None = false
is_idle (Some Outside) = true
is_idle (Some (Entered came)) = false
is_idle (Some (Picked found)) = false

-- The cell that entered the port, if there is one.
abbrev pub came_in : Option Port → Option Came
came_in None = None
came_in (Some Outside) = None
came_in (Some (Entered came)) = Some came
came_in (Some (Picked found)) = None

-- The cell of the port that was picked, if there is one.
abbrev pub found_in : Option Port → Option Found
found_in None = None
found_in (Some Outside) = None
found_in (Some (Entered came)) = None
found_in (Some (Picked found)) = Some found

-- The invariant of a core: the directory has as many lines as there are, at most 4096, and the line of each picked cell
-- is one of them.
pub record IsCore (directory : DirectoryView) (lines : List LineView) (ports : List Port) : Type 0 where
  pub sized : directory.lines ≡ length lines
  pub most : directory.lines ≤ 4096
  pub within : (port : ℕ) (found : Found) → found_in (slice_get ports port) ≡ Some found
      → found.seating.line < length lines
