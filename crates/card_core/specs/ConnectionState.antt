-- The state of a connection as a call that reads the card returns it, and the order in which reads list the connections.
use Rattle.std.specs.Prelude.{◌≡◌, ◌^◌, ◌≤◌, ◌==◌, nat_lt, Bool, true, false, ◌&&◌, ◌||◌, length, Option, Some, None, IsSome}
use Rattle.upc_cell.specs.declared.vc.Vc.{Vc}
use Rattle.line_record.specs.StateAfter.{IsStateAfter}
use Rattle.line_record.specs.Tally.{tally_of}
use Rattle.card_core.specs.declared.connection_state.ConnectionState.{ConnectionState}
use Rattle.card_core.specs.World.{World, Connection, connection_in, kept_cells}

-- The world has the connection, and this is its state: its incarnation, line, program and contracts; levels that
-- represent the buckets after its history, and the last moment of the history; the counts of all verdicts ever given on
-- its line; and the number of its cells that no cut has returned.
pub record IsStateIn (world : World) (vc : Vc) (read_state : ConnectionState) : Type 0 where
  pub connection : Connection
  pub found : connection_in world.connections vc ≡ Some connection
  pub incarnation : read_state.incarnation ≡ connection.incarnation
  pub line : read_state.line ≡ connection.line
  pub program : read_state.program ≡ connection.program
  pub contracts : read_state.contracts.items ≡ connection.contracts
  pub state : IsStateAfter connection.contracts connection.history read_state.state
  pub counts : read_state.state.counts ≡ tally_of (world.verdicts connection.line)
  pub entries : read_state.entries ≡ length (kept_cells connection)

-- There are levels for each contract, at most four of them, and the last moment is at most 2^62.
pub record HasLevelsForEach (read_state : ConnectionState) : Type 0 where
  pub one_each : length read_state.state.levels.items ≡ length read_state.contracts.items
  pub few : length read_state.contracts.items ≤ 4
  pub last : read_state.state.last ≤ 2 ^ 62

-- Whether the first connection comes before the other one: by path, and those of one path by channel.
abbrev pub is_before : Vc → Vc → Bool
is_before one other = nat_lt one.vpi other.vpi || ((one.vpi == other.vpi) && nat_lt one.vci other.vci)

-- Whether the connection comes after this one. Without one to come after, each does.
abbrev pub is_after : Option Vc → Vc → Bool
is_after None vc = true
is_after (Some earlier) vc = is_before earlier vc

-- The world has the connection, it comes after the earlier one, and no connection after the earlier one comes before it.
pub record IsNextVc (world : World) (earlier : Option Vc) (next : Vc) : Type 0 where
  pub there : IsSome (connection_in world.connections next)
  pub after : is_after earlier next ≡ true
  pub least : (other : Vc) → IsSome (connection_in world.connections other) → is_after earlier other ≡ true
      → is_before other next ≡ false

-- No connection of the world comes after the earlier one.
abbrev pub IsLastVc : World → Option Vc → Type 0
IsLastVc world earlier = (other : Vc) → IsSome (connection_in world.connections other) → is_after earlier other ≡ false
