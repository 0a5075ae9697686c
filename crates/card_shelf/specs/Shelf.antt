-- A shelf, and changes of one of its cards that leave the others as they were.
use Rattle.std.specs.Prelude.{◌≡◌, ℕ, if◌then◌else◌, List, Option, Some, option_map, slice_get, slice_set}
use Rattle.card_core.specs.Agreement.{CoreView, Follows}
use Rattle.card_core.specs.Kept.{RefusalKeeps}
use Rattle.card_core.specs.Stale.{IsNeverStale}
use Rattle.card_core.specs.Shapes.{is_beyond, shape_fault}
use Rattle.card_core.specs.declared.reply.Reply.{Reply}
use Rattle.card_core.specs.declared.shape.Shape.{Shape}
use Rattle.card_core.specs.declared.step.Step.{Step}
use Rattle.card_shelf.specs.declared.fault.ShelfFault.{ShelfFault}
use Rattle.card_shelf.specs.declared.fault.ShelfFault.TheVariants.{Cards, Card}

-- What contracts see of a shelf: the shape of its cards, and the cards.
pub record ShelfView : Type 0 where
  pub shape : Shape
  pub cards : List CoreView

-- Why a shelf of this number of cards can't be made: the number is 0 or more than 64, or else the shape has a fault.
abbrev pub shelf_fault : Shape → ℕ → Option ShelfFault
shelf_fault shape cards = if is_beyond cards 64 then Some Cards else option_map Card (shape_fault shape)

-- This was done to the card of this number, and every other card is as before.
pub record ChangesCard (old : List CoreView) (number : ℕ) (Did : CoreView → CoreView → Type 0) (new : List CoreView) : Type 0 where
  pub card : CoreView
  pub there : slice_get old number ≡ Some card
  pub next : CoreView
  pub did : Did card next
  pub after : new ≡ slice_set old number next

-- The card takes the step with this reply. A refusal leaves the card as it was, and is not one that only a card in
-- threads may give.
pub record TakesStep (step : Step) (reply : Reply) (old new : CoreView) : Type 0 where
  pub follows : Follows old step reply new
  pub unchanged : RefusalKeeps reply step old new
  pub fresh : IsNeverStale old reply
