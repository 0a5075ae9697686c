-- The parts of a test as a list, which loops go through.
use Rattle.std.specs.Prelude.{ℕ, Bool, true, false, ◌&&◌, ◌||◌, List, [], ◌∷◌}
use Rattle.upc_cell.specs.declared.side.Side.{Side}
use Rattle.rules_cells.specs.Tests.{is_met}
use Rattle.rules_cells.specs.declared.test.Test.{Test}

-- Whether each of these tests holds of a cell.
abbrev pub each_is_met : Side → List Test → List ℕ → Bool
each_is_met side [] cell = true
each_is_met side (test ∷ more) cell = is_met side test cell && each_is_met side more cell

-- Whether one of these tests holds of a cell.
abbrev pub some_is_met : Side → List Test → List ℕ → Bool
some_is_met side [] cell = false
some_is_met side (test ∷ more) cell = is_met side test cell || some_is_met side more cell
