-- The parts of a test, as the definition goes through them and as a loop does.
use Rattle.std.proofs.Common.{◌≡◌, ℕ, Bool, ◌&&◌, ◌||◌, List, Vec, Global, refl, ap, ◌∙◌}
use mathlib.Core.Former.{Count}
use Rattle.upc_cell.specs.declared.side.Side.{Side}
use Rattle.rules_cells.specs.Tests.{is_met, all_are_met, one_is_met}
use Rattle.rules_cells.specs.inner.MetTests.{each_is_met, some_is_met}
use Rattle.rules_cells.specs.declared.test.Test.{Test, AllOf, AllOf', AnyOf, Row_of-Test, end_of-Test, more_of-Test, items-the_row-Test, items_hidden-the_row-Test-0}

-- The parts of a test of which each holds. Those of one of which one holds are taken from it with the same parts.
abbrev row_of : Test → (n : Count) × Row_of-Test n
row_of (AllOf' shape row) = (_, row)
row_of _ = (_, end_of-Test)

module _ (side : Side) (cell : List ℕ) where
  all_same : (n : _) (row : Row_of-Test n) → all_are_met side row cell ≡ each_is_met side (items-the_row-Test n row) cell
  all_same n end_of-Test = refl
  all_same n (more_of-Test test more) = ap (λ (b : Bool). is_met side test cell && b) (all_same _ more)

  one_same : (n : _) (row : Row_of-Test n) → one_is_met side row cell ≡ some_is_met side (items-the_row-Test n row) cell
  one_same n end_of-Test = refl
  one_same n (more_of-Test test more) = ap (λ (b : Bool). is_met side test cell || b) (one_same _ more)

  pub met_all : (tests : Vec Test Global) → is_met side (AllOf tests) cell ≡ each_is_met side tests.items cell
  met_all tests =
      let row = row_of (AllOf tests) in
      all_same row.0 row.1 ∙ ap (λ (ts : List Test). each_is_met side ts cell) (items_hidden-the_row-Test-0 tests)

  pub met_any : (tests : Vec Test Global) → is_met side (AnyOf tests) cell ≡ some_is_met side tests.items cell
  met_any tests =
      let row = row_of (AllOf tests) in
      one_same row.0 row.1 ∙ ap (λ (ts : List Test). some_is_met side ts cell) (items_hidden-the_row-Test-0 tests)
