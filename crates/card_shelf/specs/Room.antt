-- The room that a caller lends to a shelf, and why it can be too small.
use Rattle.std.specs.Prelude.{◌<◌, ◌≤◌, ℕ, List, Result}
use Rattle.card_core.specs.declared.answer.Judgement.{Judgement}
use Rattle.card_core.specs.declared.answer.Unjudged.{Unjudged}
use Rattle.card_shelf.specs.declared.fault.NoRoom.{NoRoom}
use Rattle.card_shelf.specs.declared.fault.NoRoom.TheVariants.{Arrivals, Cards}

-- What contracts see of a room: the largest shelf and the largest batch that it is for, and the answers to the last batch.
pub record RoomView : Type 0 where
  pub cards : ℕ
  pub most : ℕ
  pub decisions : List (Result Judgement Unjudged)

-- Why a batch of this number of arrivals does not fit the room on a shelf of this number of cards: the room is for fewer
-- arrivals; or it is for fewer cards.
abbrev pub IsNoRoom : RoomView → ℕ → ℕ → NoRoom → Type 0
IsNoRoom room arrivals cards Arrivals = room.most < arrivals
IsNoRoom room arrivals cards Cards = (arrivals ≤ room.most) × (room.cards < cards)
