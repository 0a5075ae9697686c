-- The card in the terms of its callers: which programs were ever loaded and which are live, the whole history of each
-- connection, all verdicts of each line, and the state of each port. It has no slot contents, no theoretical arrival times,
-- no journals and no table of look-ups.
use Rattle.std.specs.Prelude.{ℕ, ◌==◌, nat_lt, Bool, true, false, not, ◌&&◌, ◌||◌, zero, suc, if◌then◌else◌, List, [], ◌∷◌, ◌++◌, take, drop, replicate, Option, Some, None, slice_set}
use Rattle.std.specs.List.{list_any, list_all}
use Rattle.upc_cell.specs.declared.vc.Vc.{Vc}
use Rattle.bpf_code.specs.declared.instr.Instr.{Instr}
use Rattle.gen_arena.specs.declared.id.Id.{Id}
use Rattle.gen_arena.specs.Slot.{greatest_generation}
use Rattle.leaky.specs.declared.contract.Contract.{Contract}
use Rattle.leaky.specs.declared.verdict.Verdict.{Verdict}
use Rattle.upc_cell.specs.Connection.{is_same_vc}
use Rattle.gen_arena.specs.SameId.{is_same_id}
use Rattle.line_record.specs.History.{NamedCell}
use Rattle.card_core.specs.declared.shape.Shape.{Shape}

-- A code that was loaded, and its id.
pub record Loading : Type 0 where
  pub id : Id
  pub code : List Instr

-- The code of this id in the list, if there is one.
abbrev pub code_in : List Loading → Id → Option (List Instr)
code_in [] id = None
code_in (loading ∷ later) id = if is_same_id id loading.id then Some loading.code else code_in later id

-- The list without the codes of this id.
abbrev pub without_code : List Loading → Id → List Loading
without_code [] id = []
without_code (loading ∷ later) id =
    if is_same_id id loading.id then without_code later id else loading ∷ without_code later id

-- The number of these ids with this slot.
abbrev pub times_given : List Loading → ℕ → ℕ
times_given [] slot = 0
times_given (loading ∷ later) slot =
    if loading.id.slot == slot then suc (times_given later slot) else times_given later slot

-- A connection since it was set up: its incarnation, its line, the program that names the contracts for its cells, the
-- contracts, its judged cells, and the number of those cells that cuts have returned, which are the first.
pub record Connection : Type 0 where
  pub incarnation : ℕ
  pub line : ℕ
  pub program : Id
  pub contracts : List Contract
  pub history : List NamedCell
  pub returned : ℕ

-- The cells that cuts returned.
abbrev pub returned_cells : Connection → List NamedCell
returned_cells connection = take connection.returned connection.history

-- The cells that no cut has returned.
abbrev pub kept_cells : Connection → List NamedCell
kept_cells connection = drop connection.returned connection.history

-- The connection of this virtual connection in the list, if there is one.
abbrev pub connection_in : List (Vc × Connection) → Vc → Option Connection
connection_in [] vc = None
connection_in (here ∷ later) vc = if is_same_vc vc here.0 then Some here.1 else connection_in later vc

-- The list without this virtual connection.
abbrev pub without_connection : List (Vc × Connection) → Vc → List (Vc × Connection)
without_connection [] vc = []
without_connection (here ∷ later) vc =
    if is_same_vc vc here.0 then without_connection later vc else here ∷ without_connection later vc

-- The list with this connection for the virtual connection, in place of the earlier one, if any.
abbrev pub with_connection : List (Vc × Connection) → Vc → Connection → List (Vc × Connection)
with_connection connections vc connection = (vc, connection) ∷ without_connection connections vc

-- A cell whose connection was looked up: the cell and its moment of arrival, its virtual connection, the incarnation
-- and the line that were found, the program that was named, and its value on the cell.
pub record Picking : Type 0 where
  pub cell : List ℕ
  pub moment : ℕ
  pub vc : Vc
  pub incarnation : ℕ
  pub line : ℕ
  pub program : Id
  pub value : ℕ

-- A port has no cell, or a cell that entered at a moment, or a cell whose connection was looked up.
pub data PortState : Type 0 where
  outside : PortState
  entered : List ℕ → ℕ → PortState
  picked : Picking → PortState

-- Whether the port has no cell.
abbrev pub is_outside : PortState → Bool
is_outside outside = true
is_outside (entered cell moment) = false
is_outside (picked picking) = false

-- The state of a card of this shape: the codes that were ever loaded, the latest first, and those of them that weren't
-- retired; the connections; how many incarnations were given to them; for each line number the list of all verdicts
-- ever given on it, the earliest first; and the ports, by number from 0.
pub record World : Type 0 where
  pub shape : Shape
  pub loaded : List Loading
  pub live : List Loading
  pub connections : List (Vc × Connection)
  pub incarnations : ℕ
  pub verdicts : ℕ → List Verdict
  pub ports : List PortState

-- Initially no program was loaded, there is no connection, no cell was judged, and no port has a cell.
abbrev pub opening_world : Shape → World
opening_world shape = record {
  shape = shape;
  loaded = [];
  live = [];
  connections = [];
  incarnations = 0;
  verdicts = λ line. [];
  ports = replicate shape.ports outside;
}

-- The world with the port in this state.
abbrev pub with_port : World → ℕ → PortState → World
with_port world port state = record world { ports = slice_set world.ports port state }

-- These verdicts, by line, with one more on this line.
abbrev pub with_verdict : (ℕ → List Verdict) → ℕ → Verdict → ℕ → List Verdict
with_verdict verdicts line verdict other =
    if other == line then verdicts other ++ verdict ∷ [] else verdicts other

-- Whether some port has a cell.
abbrev pub is_busy : World → Bool
is_busy world = not (list_all is_outside world.ports)

-- Whether some number below the given one passes the test.
abbrev pub any_below : ℕ → (ℕ → Bool) → Bool
any_below zero test = false
any_below (suc number) test = test number || any_below number test

-- Whether no live id has this slot, and the slot was given fewer than 4294967295 times.
abbrev pub is_open_slot : World → ℕ → Bool
is_open_slot world slot =
    not (list_any (λ loading. loading.id.slot == slot) world.live)
    && nat_lt (times_given world.loaded slot) greatest_generation

-- Whether no connection has the line.
abbrev pub is_open_line : World → ℕ → Bool
is_open_line world line = not (list_any (λ here. here.1.line == line) world.connections)

-- Whether some connection names the program.
abbrev pub is_named : World → Id → Bool
is_named world id = list_any (λ here. is_same_id here.1.program id) world.connections
