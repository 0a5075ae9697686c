-- An invariant of all worlds that logs lead to. Each step preserves it, and the proofs of the core use it.
use Rattle.std.specs.Prelude.{◌≡◌, ℕ, ◌^◌, ◌<◌, ◌≤◌, List, [], length, Some, IsSome, All, Contains, slice_get}
use Rattle.upc_cell.specs.declared.vc.Vc.{Vc}
use Rattle.upc_cell.specs.Connection.{vc_of}
use Rattle.bpf_code.specs.declared.instr.Instr.{Instr}
use Rattle.bpf_verify.specs.Accepted.{IsAccepted}
use Rattle.gen_arena.specs.declared.id.Id.{Id}
use Rattle.line_record.specs.declared.tally.Tally.{Tally}
use Rattle.line_record.specs.History.{IsHistory, empty_buckets, judged}
use Rattle.line_record.specs.JournalRun.{tallied}
use Rattle.line_record.specs.Tally.{tally_of}
use Rattle.card_core.specs.declared.shape.Shape.{Shape}
use Rattle.card_core.specs.World.{World, Connection, Picking, picked, code_in, times_given, connection_in}
use Rattle.card_core.specs.Log.{Event, Leads}

-- The programs: no id has a generation above the number of times that its slot was given, so the next generation is
-- new. Each live code was given under its id, and each given code is accepted.
pub record SoundPrograms (world : World) : Type 0 where
  pub once : (id : Id) (code : List Instr) → code_in world.loaded id ≡ Some code
      → id.generation ≤ times_given world.loaded id.slot
  pub live_given : (id : Id) (code : List Instr) → code_in world.live id ≡ Some code
      → code_in world.loaded id ≡ Some code
  pub accepted : (id : Id) (code : List Instr) → code_in world.loaded id ≡ Some code → IsAccepted code

-- One connection: its line is one of the card's, its incarnation is one of those given, its program is live, it has a
-- contract, and the moments of its history never go back and are at most 2^62. Some counts at its setup, plus those of
-- its history's verdicts, are the line's counts.
pub record SoundConnection (world : World) (connection : Connection) : Type 0 where
  pub within : connection.line < world.shape.lines
  pub first : 1 ≤ connection.incarnation
  pub old : connection.incarnation ≤ world.incarnations
  pub named_live : IsSome (code_in world.live connection.program)
  pub some : 0 < length connection.contracts
  pub history : IsHistory connection.history
  pub early : All (λ cell. cell.moment ≤ 2 ^ 62) connection.history
  pub returned : connection.returned ≤ length connection.history
  pub opening : Tally
  pub counted : tallied opening (judged connection.contracts empty_buckets [] connection.history) ≡ tally_of (world.verdicts connection.line)

-- The connections: each virtual connection occurs at most once in their list, and no two have the same line or
-- incarnation.
pub record SoundConnections (world : World) : Type 0 where
  pub once : (here : Vc × Connection) → Contains world.connections here
      → connection_in world.connections here.0 ≡ Some here.1
  pub each : (vc : Vc) (connection : Connection) → connection_in world.connections vc ≡ Some connection
      → SoundConnection world connection
  pub lines_apart : (one other : Vc) (connection another : Connection)
      → connection_in world.connections one ≡ Some connection
      → connection_in world.connections other ≡ Some another
      → connection.line ≡ another.line → one ≡ other
  pub apart : (one other : Vc) (connection another : Connection)
      → connection_in world.connections one ≡ Some connection
      → connection_in world.connections other ≡ Some another
      → connection.incarnation ≡ another.incarnation → one ≡ other

-- A picked cell: its program is live, its incarnation was given, and if its virtual connection still has that
-- incarnation, it has the line that was found.
pub record SoundPicking (world : World) (picking : Picking) : Type 0 where
  pub own : picking.vc ≡ vc_of world.shape.side picking.cell
  pub live : IsSome (code_in world.live picking.program)
  pub old : picking.incarnation ≤ world.incarnations
  pub same_line : (connection : Connection) → connection_in world.connections picking.vc ≡ Some connection
      → connection.incarnation ≡ picking.incarnation → connection.line ≡ picking.line

-- The invariant of every world that a log leads to.
pub record WorldInvariant (world : World) : Type 0 where
  pub programs : SoundPrograms world
  pub connections : SoundConnections world
  pub ports : (port : ℕ) (picking : Picking) → slice_get world.ports port ≡ Some (picked picking)
      → SoundPicking world picking
  pub sized : length world.ports ≡ world.shape.ports
  pub incarnations : world.incarnations ≤ 2 ^ 62

-- The invariant holds for every world that a log leads to.
abbrev pub ReachedWorldsAreSound : Type 0
ReachedWorldsAreSound = (shape : Shape) (log : List Event) (world : World) → Leads shape log world → WorldInvariant world
