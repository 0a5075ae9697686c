-- The two steps that return a connection's journal.
use Rattle.std.specs.Prelude.{◌≡◌, ◌<◌, ◌≤◌, ℕ, Result, length, Some}
use Rattle.card_core.specs.Agreement.{CoreView, CoreAgrees}
use Rattle.card_core.specs.DeskReplies.{release_reply, cut_reply}
use Rattle.card_core.specs.World.{World, Connection, connection_in, kept_cells}
use Rattle.card_core.specs.declared.fault.DeskFault.{DeskFault}
use Rattle.card_core.specs.declared.reply.Reply.{Reply}
use Rattle.card_core.specs.declared.reply.Reply.TheVariants.{Released, Cut as CutOff}
use Rattle.card_core.specs.declared.step.Step.{Step}
use Rattle.card_core.specs.declared.step.Step.TheVariants.{Release, Cut}
use Rattle.line_record.specs.Piece.{PieceView}
use Rattle.upc_cell.specs.declared.vc.Vc.{Vc}
use Rattle.upc_c.specs.CardHandle.{card_in}
use Rattle.upc_c.specs.CardInspection.{HasConnection}
use Rattle.upc_c.specs.Faults.{no_room}
use Rattle.upc_c.specs.declared.card.UpcCard.{UpcCard}
use Rattle.upc_c.specs.declared.fault.UpcFault.{UpcFault}
use Rattle.upc_c.specs.declared.journal.HandOut.{HandOut}
use Rattle.upc_c.specs.declared.journal.HandOut.TheVariants.{AtEnd, GoingOn}

-- The step that returns the journal.
abbrev pub step_of : HandOut → Vc → Step
step_of AtEnd vc = Release vc
step_of GoingOn vc = Cut vc

-- The reply that returns the journal.
abbrev pub handing_reply : HandOut → PieceView → Reply
handing_reply AtEnd piece = Released piece
handing_reply GoingOn piece = CutOff piece

-- The reply to the step, from the result of the core's call.
abbrev pub replied : HandOut → Result PieceView DeskFault → Reply
replied AtEnd returned = release_reply returned
replied GoingOn returned = cut_reply returned

-- In each world that the core agrees with, the connection's journal has this many cells, which is more than `most`.
abbrev pub IsLongerIn : CoreView → Vc → ℕ → ℕ → Type 0
IsLongerIn core vc most cells = (most < cells)
    × ((world : World) → CoreAgrees core world → HasConnection world vc (λ connection. length (kept_cells connection) ≡ cells))

-- In each world that the core agrees with, the connection is not set up, or its journal has at most `most` cells.
pub record IsShortIn (core : CoreView) (vc : Vc) (most : ℕ) : Type 0 where
  pub few : (world : World) → CoreAgrees core world → (connection : Connection)
      → connection_in world.connections vc ≡ Some connection → length (kept_cells connection) ≤ most

-- The connection's journal on the card has more than `most` cells, and the place of the error is their number.
pub record IsLongerOn (card : UpcCard) (vc : Vc) (most : ℕ) (fault : UpcFault) : Type 0 where
  pub core : CoreView
  pub had : card_in card ≡ Some core
  pub cells : ℕ
  pub longer : IsLongerIn core vc most cells
  pub reported : fault ≡ no_room cells
