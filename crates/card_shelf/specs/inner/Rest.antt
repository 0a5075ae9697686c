-- A card whose port 0 waits for a cell.
use Rattle.std.specs.Prelude.{◌≡◌, List, Some, slice_get, ⊤}
use Rattle.card_core.specs.Agreement.{CoreView, CoreAgrees}
use Rattle.card_core.specs.Log.{Event, Leads}
use Rattle.card_core.specs.World.{World, outside}
use Rattle.card_core.specs.declared.shape.Shape.{Shape}
use Rattle.card_core.specs.declared.step.Step.{Step}
use Rattle.card_core.specs.declared.step.Step.TheVariants.{Enter, Pick, Judge}

-- The card agrees with a world to which a log leads, and there port 0 has no cell.
pub record IsAtRest (core : CoreView) : Type 0 where
  pub shape : Shape
  pub log : List Event
  pub world : World
  pub leads : Leads shape log world
  pub agrees : CoreAgrees core world
  pub free : slice_get world.ports 0 ≡ Some outside

-- The step is one of the desk.
abbrev pub IsOfDesk : Step → Type 0
IsOfDesk (Enter port cell moment) = ⊥
IsOfDesk (Pick port) = ⊥
IsOfDesk (Judge port) = ⊥
IsOfDesk _ = ⊤
