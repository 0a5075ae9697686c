-- The parts of a chain as a list, which a loop goes through.
use Rattle.std.specs.Prelude.{List, [], ◌∷◌}
use Rattle.rules_code.specs.declared.plain_test.PlainTest.{PlainTest}
use Rattle.upc_cell.specs.declared.side.Side.{Side}
use Rattle.rules_cells.specs.PlainOf.{IsPlainOf}
use Rattle.rules_cells.specs.declared.test.Test.{Test}

-- The tests that these tests of cells become.
abbrev pub ArePlainTests : Side → List Test → List PlainTest → Type 0
ArePlainTests side [] [] = Unit {0}
ArePlainTests side (of ∷ more) (test ∷ others) = IsPlainOf side of test × ArePlainTests side more others
ArePlainTests side _ _ = ⊥
