-- Agreement of a core with a world. A core has slots, a directory, lines and ports; a world has whole histories. Each
-- part of the core agrees with the world by itself.
use Rattle.std.specs.Prelude.{◌≡◌, ℕ, List, [], ◌∷◌, ◌++◌, length, Some, option_map, slice_get}
use Rattle.upc_cell.specs.declared.vc.Vc.{Vc}
use Rattle.bpf_code.specs.declared.instr.Instr.{Instr}
use Rattle.gen_arena.specs.declared.id.Id.{Id}
use Rattle.gen_arena.specs.Slot.{Slot, generation_at}
use Rattle.gen_arena.specs.Live.{live_value}
use Rattle.leaky.specs.declared.verdict.Verdict.{Verdict}
use Rattle.line_record.specs.declared.owner.Owner.{Owner}
use Rattle.line_record.specs.declared.directory.Seating.{Seating}
use Rattle.line_record.specs.Directory.{DirectoryView, seating_at}
use Rattle.line_record.specs.History.{empty_buckets, judged}
use Rattle.line_record.specs.Line.{LineView}
use Rattle.line_record.specs.JournalRun.{tallied}
use Rattle.line_record.specs.StateAfter.{IsStateAfter}
use Rattle.card_core.specs.declared.shape.Shape.{Shape}
use Rattle.line_record.specs.Tally.{tally_of}
use Rattle.card_core.specs.declared.reply.Reply.{Reply}
use Rattle.card_core.specs.declared.step.Step.{Step}
use Rattle.card_core.specs.Log.{Event, Run, Leads}
use Rattle.card_core.specs.Steps.{WorldStep}
use Rattle.card_core.specs.World.{World, Loading, Connection, PortState, code_in, times_given, connection_in, returned_cells, kept_cells}

-- The parts of a core that contracts see: its shape, the slots for programs, the directory, the lines, and the ports.
pub record CoreView : Type 0 where
  pub shape : Shape
  pub store : List (Slot (List Instr))
  pub directory : DirectoryView
  pub lines : List LineView
  pub ports : List PortState

-- There are as many slots as programs in the shape. Each slot's generation is the number of times that the slot was given.
-- Each live id has its code in its slot; an id that isn't live has no code there.
pub record StoreAgrees (shape : Shape) (slots : List (Slot (List Instr))) (given live : List Loading) : Type 0 where
  pub sized : length slots ≡ shape.programs
  pub generations : (slot : ℕ) → generation_at slots slot ≡ times_given given slot
  pub values : (id : Id) → live_value slots id ≡ code_in live id

-- The seating of the connection in the directory.
abbrev pub seating_of : Connection → Seating
seating_of connection = record {
  line = connection.line;
  incarnation = connection.incarnation;
  program = connection.program;
}

-- The directory has the lines of the shape and exactly the world's connections, each with its line, incarnation and
-- program. It has given as many incarnations as the world.
pub record SeatingsAgree (shape : Shape) (directory : DirectoryView) (connections : List (Vc × Connection)) (used : ℕ) : Type 0 where
  pub lines : directory.lines ≡ shape.lines
  pub used_up : directory.used ≡ used
  pub seatings : (vc : Vc) → seating_at directory vc ≡ option_map seating_of (connection_in connections vc)

-- The owner of the line of a connection.
abbrev pub owner_of : Vc → Connection → Owner
owner_of vc connection = record { vc = vc; incarnation = connection.incarnation }

-- The line, with these verdicts given on it, serves the connection under its contracts. Its journal has the cells that
-- no cut has returned, with their verdicts. Its first state is that after the returned cells, its last state that after
-- all cells. The counts at the beginning of the journal and those of its entries are together the counts of these
-- verdicts.
pub record Serves (line : LineView) (vc : Vc) (connection : Connection) (verdicts : List Verdict) : Type 0 where
  pub owner : line.owner ≡ Some (owner_of vc connection)
  pub contracts : line.contracts ≡ connection.contracts
  pub entries : line.entries ≡ judged connection.contracts empty_buckets (returned_cells connection) (kept_cells connection)
  pub start : IsStateAfter connection.contracts (returned_cells connection) line.start
  pub state : IsStateAfter connection.contracts connection.history line.state
  pub together : tallied line.start.counts line.entries ≡ tally_of verdicts

-- The connection of this owner, by virtual connection and incarnation, exists and has the line of this number.
pub record IsLineOf (connections : List (Vc × Connection)) (number : ℕ) (owner : Owner) : Type 0 where
  pub connection : Connection
  pub found : connection_in connections owner.vc ≡ Some connection
  pub incarnation : connection.incarnation ≡ owner.incarnation
  pub line : connection.line ≡ number

-- There are the lines of the shape, with its journal limit. Each connection has a line that serves it, each line with
-- an owner is that of a connection, and the counts of each line are those of all verdicts ever given on it.
pub record LinesAgree (shape : Shape) (lines : List LineView) (connections : List (Vc × Connection)) (verdicts : ℕ → List Verdict) : Type 0 where
  pub sized : length lines ≡ shape.lines
  pub journals : (number : ℕ) (line : LineView) → slice_get lines number ≡ Some line → line.journal ≡ shape.journal
  pub serving : (vc : Vc) (connection : Connection) → connection_in connections vc ≡ Some connection
      → (line : LineView) × (slice_get lines connection.line ≡ Some line) × Serves line vc connection (verdicts connection.line)
  pub owned : (number : ℕ) (line : LineView) (owner : Owner) → slice_get lines number ≡ Some line
      → line.owner ≡ Some owner → IsLineOf connections number owner
  pub counts : (number : ℕ) (line : LineView) → slice_get lines number ≡ Some line
      → line.state.counts ≡ tally_of (verdicts number)

-- The core agrees with the world in each part.
pub record CoreAgrees (core : CoreView) (world : World) : Type 0 where
  pub shape : core.shape ≡ world.shape
  pub store : StoreAgrees world.shape core.store world.loaded world.live
  pub seatings : SeatingsAgree world.shape core.directory world.connections world.incarnations
  pub lines : LinesAgree world.shape core.lines world.connections world.verdicts
  pub ports : core.ports ≡ world.ports

-- The event leads from the world before to a world that the new core agrees with, so the log with this event leads to
-- that world.
pub record GoneOn (shape : Shape) (log : List Event) (before : World) (step : Step) (reply : Reply) (new : CoreView) : Type 0 where
  pub after : World
  pub stepped : WorldStep before step reply after
  pub leads : Leads shape (log ++ record { step = step; reply = reply } ∷ []) after
  pub agrees : CoreAgrees new after

-- Take any log, and any world to which the log leads and with which the old core agrees. From that world this event leads
-- to a world with which the new core agrees.
abbrev pub Follows : CoreView → Step → Reply → CoreView → Type 0
Follows old step reply new = (shape : Shape) (log : List Event) (before : World)
    → Leads shape log before → CoreAgrees old before → GoneOn shape log before step reply new

-- The steps with their replies, in order.
abbrev pub events_of : List Step → List Reply → List Event
events_of [] replies = []
events_of (step ∷ steps) [] = []
events_of (step ∷ steps) (reply ∷ replies) = record { step = step; reply = reply } ∷ events_of steps replies

-- The events lead from the world before to a world that the new core agrees with, so the log with these events leads to
-- that world.
pub record GoneAll (shape : Shape) (log : List Event) (before : World) (events : List Event) (new : CoreView) : Type 0 where
  pub after : World
  pub stepped : Run before events after
  pub leads : Leads shape (log ++ events) after
  pub agrees : CoreAgrees new after

-- Take any log, and any world to which the log leads and with which the old core agrees. From that world these events lead
-- to a world with which the new core agrees.
abbrev pub FollowsAll : CoreView → List Step → List Reply → CoreView → Type 0
FollowsAll old steps replies new = (shape : Shape) (log : List Event) (before : World)
    → Leads shape log before → CoreAgrees old before → GoneAll shape log before (events_of steps replies) new
