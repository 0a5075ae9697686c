-- Cores of cards that started empty and took steps.
use Rattle.std.specs.Prelude.{◌≡◌, List, Some, false, slice_get}
use Rattle.card_core.specs.declared.shape.Shape.{Shape}
use Rattle.card_core.specs.Agreement.{CoreView, CoreAgrees}
use Rattle.card_core.specs.Log.{Event, Leads}
use Rattle.card_core.specs.World.{World, is_busy, outside}

-- Port 0 has no cell.
abbrev pub IsIdlePort : World → Type 0
IsIdlePort world = slice_get world.ports 0 ≡ Some outside

-- The core agrees with a world that some log leads to. The world has a port 0, and none of its ports has a cell.
pub record Reaching (core : CoreView) : Type 0 where
  pub shape : Shape
  pub log : List Event
  pub world : World
  pub leads : Leads shape log world
  pub agrees : CoreAgrees core world
  pub idle : IsIdlePort world
  pub quiet : is_busy world ≡ false

-- Some log has led to a world that the core agrees with. The brackets `∥ ∥₁` leave open which log.
abbrev pub IsReachedCore : CoreView → Type 0
IsReachedCore core = ∥ Reaching core ∥₁
