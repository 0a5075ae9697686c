-- A card that C has, and its steps.
use Rattle.std.specs.Prelude.{◌≡◌, Option, Some}
use Rattle.card_core.specs.Agreement.{CoreView, Follows}
use Rattle.card_core.specs.Kept.{RefusalKeeps}
use Rattle.card_core.specs.declared.reply.Reply.{Reply}
use Rattle.card_core.specs.declared.shape.Shape.{Shape}
use Rattle.card_core.specs.declared.step.Step.{Step}
use Rattle.upc_c.specs.Faults.{plain_fault}
use Rattle.upc_c.specs.declared.card.UpcCard.{UpcCard}
use Rattle.upc_c.specs.declared.fault.UpcFault.{UpcFault}

-- The core of the card, if there is one.
abbrev pub card_in : UpcCard → Option CoreView
card_in card = card.inner.core

-- There is a card already, and it can't be replaced: UPC_CARD_THERE.
abbrev pub card_there : UpcFault
card_there = plain_fault 1 8 0

-- There is no card: UPC_NO_CARD.
abbrev pub card_missing : UpcFault
card_missing = plain_fault 1 9 0

-- There is a card, and it has this shape.
pub record IsShapeIn (card : UpcCard) (shape : Shape) : Type 0 where
  pub core : CoreView
  pub had : card_in card ≡ Some core
  pub same : shape ≡ core.shape

-- There is a card before and after, and it took the step with this reply: the core after is one that the step leads to. If
-- the step was refused, what is unchanged is as `RefusalKeeps` states.
pub record CardTakes (before after : UpcCard) (step : Step) (reply : Reply) : Type 0 where
  pub old : CoreView
  pub new : CoreView
  pub had : card_in before ≡ Some old
  pub has : card_in after ≡ Some new
  pub follows : Follows old step reply new
  pub kept : RefusalKeeps reply step old new
