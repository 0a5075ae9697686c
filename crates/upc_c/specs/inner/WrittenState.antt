-- The state of a connection, from the core to C.
use Rattle.std.specs.Prelude.{◌≡◌, ◌<◌, ◌≤◌, ℕ, List, length, Option, Some, None, MatchOption, slice_get}
use Rattle.card_core.specs.Agreement.{CoreView, CoreAgrees}
use Rattle.card_core.specs.ConnectionState.{IsStateIn, IsNextVc, IsLastVc}
use Rattle.card_core.specs.World.{World, connection_in}
use Rattle.card_core.specs.declared.connection_state.ConnectionState.{ConnectionState}
use Rattle.leaky.specs.declared.contract.Contract.{Contract}
use Rattle.leaky.specs.declared.levels.Levels.{Levels}
use Rattle.upc_cell.specs.declared.vc.Vc.{Vc}
use Rattle.upc_c.specs.CardDesk.{IsVc, id_for_c}
use Rattle.upc_c.specs.CardHandle.{card_in}
use Rattle.upc_c.specs.CardInspection.{counts_for_c}
use Rattle.upc_c.specs.CardState.{contract_for_c}
use Rattle.upc_c.specs.declared.card.UpcCard.{UpcCard}
use Rattle.upc_c.specs.declared.meter.UpcLevels.{UpcLevels}
use Rattle.upc_c.specs.declared.state.UpcMeter.{UpcMeter}
use Rattle.upc_c.specs.declared.state.UpcState.{UpcState}

-- The levels, as C has them.
abbrev pub levels_for_c : Levels → UpcLevels
levels_for_c levels = record { first = levels.first; second = levels.second }

-- A contract and its levels, as C has them.
abbrev pub meter_for_c : Contract → Levels → UpcMeter
meter_for_c contract levels = record { contract = contract_for_c contract; levels = levels_for_c levels }

-- The state, as C has it, without its contracts.
abbrev pub state_for_c : ConnectionState → UpcState
state_for_c state = record {
  incarnation = state.incarnation;
  last = state.state.last;
  cells = state.entries;
  contracts = length state.contracts.items;
  counts = counts_for_c state.state.counts;
  program = id_for_c state.program;
  line = state.line;
}

-- The first meters are those of the first contracts and levels, and the rest of the buffer is unchanged.
pub record AreMetersOf (contracts : List Contract) (levels : List Levels) (before room : List UpcMeter) (count : ℕ) : Type 0 where
  pub sized : length room ≡ length before
  pub front : (place : ℕ) (contract : Contract) (its : Levels) → place < count → slice_get contracts place ≡ Some contract
      → slice_get levels place ≡ Some its → slice_get room place ≡ Some (meter_for_c contract its)
  pub rest : (place : ℕ) → count ≤ place → slice_get room place ≡ slice_get before place

-- The contracts and levels of the state are in the buffer, and `written` is the rest of the state.
pub record IsWrittenState (state : ConnectionState) (before room : List UpcMeter) (written : UpcState) : Type 0 where
  pub fits : length state.contracts.items ≤ length before
  pub meters : AreMetersOf state.contracts.items state.state.levels.items before room (length state.contracts.items)
  pub numbers : written ≡ state_for_c state

-- In each world that the core agrees with, this is the state of the connection.
abbrev pub IsStateOf : CoreView → Vc → ConnectionState → Type 0
IsStateOf core vc state = (world : World) → CoreAgrees core world → IsStateIn world vc state

-- No world that the core agrees with has such a connection.
abbrev pub IsMissingIn : CoreView → Vc → Type 0
IsMissingIn core vc = (world : World) → CoreAgrees core world → connection_in world.connections vc ≡ None

-- This is the state of the connection of this path and channel on the card.
pub record IsStateOn (card : UpcCard) (path channel : ℕ) (state : ConnectionState) : Type 0 where
  pub vc : Vc
  pub numbers : IsVc card path channel vc
  pub core : CoreView
  pub had : card_in card ≡ Some core
  pub so : IsStateOf core vc state

-- There is a card, and in each world that its core agrees with, this is the next connection after the earlier one, or
-- there is none.
pub record IsFoundOn (card : UpcCard) (earlier found : Option Vc) : Type 0 where
  pub core : CoreView
  pub had : card_in card ≡ Some core
  pub so : (world : World) → CoreAgrees core world → MatchOption found (IsLastVc world earlier) (IsNextVc world earlier)
