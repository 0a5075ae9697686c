-- Reads of a card, without a step.
use Rattle.std.specs.Prelude.{◌≡◌, ◌⊎◌, ℕ, length, Some, None}
use Rattle.card_core.specs.Agreement.{CoreView, CoreAgrees}
use Rattle.card_core.specs.World.{World, Connection, connection_in, kept_cells}
use Rattle.card_core.specs.declared.fault.DeskFault.TheVariants.{NoConnection}
use Rattle.card_core.specs.declared.shape.Shape.{Shape}
use Rattle.line_record.specs.Tally.{tally_of}
use Rattle.line_record.specs.declared.tally.Tally.{Tally}
use Rattle.upc_cell.specs.declared.vc.Vc.{Vc}
use Rattle.upc_c.specs.CardDesk.{HasNoPath, IsVc, path_too_large, desk_fault_for_c}
use Rattle.upc_c.specs.CardHandle.{IsShapeIn, card_in, card_missing}
use Rattle.upc_c.specs.CardMaking.{IsShapeOf}
use Rattle.upc_c.specs.declared.card.UpcCard.{UpcCard}
use Rattle.upc_c.specs.declared.counts.UpcCounts.{UpcCounts}
use Rattle.upc_c.specs.declared.fault.UpcFault.{UpcFault}
use Rattle.upc_c.specs.declared.shape.UpcShape.{UpcShape}

-- The counts of a line, as C gets them.
abbrev pub counts_for_c : Tally → UpcCounts
counts_for_c tally = record { passed = tally.passed; tagged = tally.tagged; discarded = tally.discarded; refused = tally.refused }

-- There is a card, and these are the numbers of its shape.
abbrev pub HasShape : UpcCard → UpcShape → Type 0
HasShape card numbers = (shape : Shape) × IsShapeIn card shape × IsShapeOf numbers shape

-- The world has this connection, and this holds of it.
abbrev pub HasConnection : World → Vc → (Connection → Type 0) → Type 0
HasConnection world vc IsSo =
    (connection : Connection) × (connection_in world.connections vc ≡ Some connection) × IsSo connection

-- There is a card, and in each world that its core agrees with it has the connection of this path and channel, and this
-- holds of it.
pub record OfConnection (card : UpcCard) (path channel : ℕ) (IsSo : World → Connection → Type 0) : Type 0 where
  pub vc : Vc
  pub numbers : IsVc card path channel vc
  pub core : CoreView
  pub had : card_in card ≡ Some core
  pub so : (world : World) → CoreAgrees core world → HasConnection world vc (IsSo world)

-- The connection's journal has this many cells: those judged since the last cut.
abbrev pub HasInJournal : UpcCard → ℕ → ℕ → ℕ → Type 0
HasInJournal card path channel cells =
    OfConnection card path channel (λ world connection. length (kept_cells connection) ≡ cells)

-- The connection's line has these counts: those of all verdicts ever given on it.
abbrev pub HasCounted : UpcCard → ℕ → ℕ → UpcCounts → Type 0
HasCounted card path channel counts =
    OfConnection card path channel (λ world connection. counts ≡ counts_for_c (tally_of (world.verdicts connection.line)))

-- There is a card, and in no world that its core agrees with is there a connection of this path and channel.
pub record IsMissing (card : UpcCard) (path channel : ℕ) : Type 0 where
  pub vc : Vc
  pub numbers : IsVc card path channel vc
  pub core : CoreView
  pub had : card_in card ≡ Some core
  pub none : (world : World) → CoreAgrees core world → connection_in world.connections vc ≡ None

-- The error of a read of the connection: there is no card; then, the card's side has no such path; then, the card has no
-- such connection.
abbrev pub IsLookUpFault : UpcCard → ℕ → ℕ → UpcFault → Type 0
IsLookUpFault card path channel fault =
    ((card_in card ≡ None) × (fault ≡ card_missing))
    ⊎ (HasNoPath card path × (fault ≡ path_too_large))
    ⊎ (IsMissing card path channel × (fault ≡ desk_fault_for_c NoConnection))
