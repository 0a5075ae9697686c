-- Logs: the steps that were taken, in order, and their replies.
use Rattle.std.specs.Prelude.{◌≡◌, List, [], ◌∷◌}
use Rattle.card_core.specs.declared.reply.Reply.{Reply}
use Rattle.card_core.specs.declared.shape.Shape.{Shape}
use Rattle.card_core.specs.declared.step.Step.{Step}
use Rattle.card_core.specs.World.{World, opening_world}
use Rattle.card_core.specs.Steps.{WorldStep}

-- A step with its reply.
pub record Event : Type 0 where
  pub step : Step
  pub reply : Reply

-- The events, in order, lead from one world to the other.
abbrev pub Run : World → List Event → World → Type 0
Run before [] after = after ≡ before
Run before (event ∷ later) after =
    (next : World) × WorldStep before event.step event.reply next × Run next later after

-- The log of a card of this shape leads from the opening world to this one.
abbrev pub Leads : Shape → List Event → World → Type 0
Leads shape log world = Run (opening_world shape) log world

-- A card of this shape may have this log.
abbrev pub IsLog : Shape → List Event → Type 0
IsLog shape log = (world : World) × Leads shape log world
