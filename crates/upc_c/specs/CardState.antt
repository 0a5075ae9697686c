-- The state of a connection, and the connections in order, as C gets them.
use Rattle.std.specs.Prelude.{◌≡◌, ◌⊎◌, ◌<◌, ◌≤◌, ℕ, suc, List, length, Option, Some, None, slice_get}
use Rattle.card_core.specs.Agreement.{CoreView, CoreAgrees}
use Rattle.card_core.specs.ConnectionState.{IsNextVc, IsLastVc}
use Rattle.card_core.specs.World.{World, Connection, kept_cells}
use Rattle.card_core.specs.declared.fault.DeskFault.TheVariants.{NoConnection}
use Rattle.leaky.specs.declared.contract.Contract.{Contract}
use Rattle.leaky.specs.declared.contract.Contract.TheVariants.{Cbr1, Vbr1, Vbr2, Vbr3}
use Rattle.leaky.specs.declared.gcra.Gcra.{Gcra}
use Rattle.line_record.specs.History.{buckets_after_cells, empty_buckets, last_moment}
use Rattle.line_record.specs.Tally.{tally_of}
use Rattle.upc_cell.specs.declared.vc.Vc.{Vc}
use Rattle.upc_c.specs.CardDesk.{HasNoPath, IsVc, path_too_large, desk_fault_for_c, id_for_c}
use Rattle.upc_c.specs.CardHandle.{card_in, card_missing}
use Rattle.upc_c.specs.CardInspection.{IsLookUpFault, OfConnection, counts_for_c}
use Rattle.upc_c.specs.Faults.{no_room}
use Rattle.upc_c.specs.Judging.{AreLevels, Shows}
use Rattle.upc_c.specs.declared.card.UpcCard.{UpcCard}
use Rattle.upc_c.specs.declared.contract.UpcContract.{UpcContract}
use Rattle.upc_c.specs.declared.cursor.UpcCursor.{UpcCursor}
use Rattle.upc_c.specs.declared.fault.UpcFault.{UpcFault}
use Rattle.upc_c.specs.declared.state.UpcMeter.{UpcMeter}
use Rattle.upc_c.specs.declared.state.UpcState.{UpcState}

-- A contract of this kind with two rates, as C has it.
abbrev pub two_rates_for_c : ℕ → Gcra → Gcra → UpcContract
two_rates_for_c kind peak sustained = record {
  kind = kind;
  peak_increment = peak.increment;
  peak_limit = peak.limit;
  sustained_increment = sustained.increment;
  sustained_limit = sustained.limit;
}

-- The contract, as C has it: its kind, and the rates of its buckets. Without a bucket 2 its two numbers are 0.
abbrev pub contract_for_c : Contract → UpcContract
contract_for_c (Cbr1 peak) = record {
  kind = 1;
  peak_increment = peak.increment;
  peak_limit = peak.limit;
  sustained_increment = 0;
  sustained_limit = 0;
}
contract_for_c (Vbr1 peak sustained) = two_rates_for_c 2 peak sustained
contract_for_c (Vbr2 peak sustained) = two_rates_for_c 3 peak sustained
contract_for_c (Vbr3 peak sustained) = two_rates_for_c 4 peak sustained

-- At this place, from 0, of the buffer is this contract, with levels that represent its buckets after the connection's
-- history. A contract's number is its place plus 1.
pub record IsMeterAt (connection : Connection) (contract : Contract) (place : ℕ) (room : List UpcMeter) : Type 0 where
  pub meter : UpcMeter
  pub there : slice_get room place ≡ Some meter
  pub numbers : meter.contract ≡ contract_for_c contract
  pub shows : Shows meter.levels (buckets_after_cells connection.contracts empty_buckets connection.history (suc place))
  pub kept : AreLevels meter.levels

-- These are the numbers of the connection. The front of the buffer has a meter for each of its contracts, in order, and
-- the rest of the buffer is unchanged.
pub record IsStateForC (world : World) (connection : Connection) (room written : List UpcMeter) (state : UpcState) : Type 0 where
  pub incarnation : state.incarnation ≡ connection.incarnation
  pub line : state.line ≡ connection.line
  pub program : state.program ≡ id_for_c connection.program
  pub last : state.last ≡ last_moment 0 connection.history
  pub counts : state.counts ≡ counts_for_c (tally_of (world.verdicts connection.line))
  pub cells : state.cells ≡ length (kept_cells connection)
  pub contracts : state.contracts ≡ length connection.contracts
  pub fits : state.contracts ≤ length room
  pub meters : (place : ℕ) (contract : Contract) → slice_get connection.contracts place ≡ Some contract
      → IsMeterAt connection contract place written
  pub rest : (place : ℕ) → state.contracts ≤ place → slice_get written place ≡ slice_get room place

-- The card has the connection of this path and channel, and C gets its state.
abbrev pub HasState : UpcCard → ℕ → ℕ → List UpcMeter → List UpcMeter → UpcState → Type 0
HasState card path channel room written state =
    OfConnection card path channel (λ world connection. IsStateForC world connection room written state)

-- The error if the state was not written: that of the look-up; then, the buffer has fewer meters than the connection
-- has contracts, whose number is the place of the error.
abbrev pub IsStateFault : UpcCard → ℕ → ℕ → List UpcMeter → UpcFault → Type 0
IsStateFault card path channel room fault =
    IsLookUpFault card path channel fault
    ⊎ ((many : ℕ) × OfConnection card path channel (λ world connection. length connection.contracts ≡ many)
    × (length room < many) × (fault ≡ no_room many))

-- The connection at which a listing is: none before it begins, otherwise that of the cursor's path and channel.
abbrev pub IsCursor : UpcCard → UpcCursor → Option Vc → Type 0
IsCursor card cursor None = cursor.begun ≡ 0
IsCursor card cursor (Some vc) = (0 < cursor.begun) × IsVc card cursor.path cursor.channel vc

-- There is a card, and in each world that its core agrees with, the new cursor is at the next connection after the old
-- one.
pub record IsNextOn (card : UpcCard) (old new : UpcCursor) : Type 0 where
  pub earlier : Option Vc
  pub at : IsCursor card old earlier
  pub next : Vc
  pub begun : new.begun ≡ 1
  pub path : next.vpi ≡ new.path
  pub channel : next.vci ≡ new.channel
  pub core : CoreView
  pub had : card_in card ≡ Some core
  pub so : (world : World) → CoreAgrees core world → IsNextVc world earlier next

-- There is a card, and in no world that its core agrees with is there a connection after the cursor.
pub record IsAtEnd (card : UpcCard) (cursor : UpcCursor) : Type 0 where
  pub earlier : Option Vc
  pub at : IsCursor card cursor earlier
  pub core : CoreView
  pub had : card_in card ≡ Some core
  pub so : (world : World) → CoreAgrees core world → IsLastVc world earlier

-- The error if there is no next connection: there is no card; then, the cursor has begun and the card's side has no such
-- path; then, no connection comes after it.
abbrev pub IsCursorFault : UpcCard → UpcCursor → UpcFault → Type 0
IsCursorFault card cursor fault =
    ((card_in card ≡ None) × (fault ≡ card_missing))
    ⊎ ((0 < cursor.begun) × HasNoPath card cursor.path × (fault ≡ path_too_large))
    ⊎ (IsAtEnd card cursor × (fault ≡ desk_fault_for_c NoConnection))
