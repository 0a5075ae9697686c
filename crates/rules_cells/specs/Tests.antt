-- When a test holds of a cell.
use Rattle.std.specs.Prelude.{ℕ, Bool, true, false, not, ◌&&◌, ◌||◌, ◌==◌, nat_le, List}
use Rattle.rules_code.specs.PlainTests.{kept_bits}
use Rattle.upc_cell.specs.Header.{pti_of}
use Rattle.upc_cell.specs.declared.side.Side.{Side}
use Rattle.rules_cells.specs.Fields.{number_in, is_so}
use Rattle.rules_cells.specs.declared.test.Test.{Test, Row_of-Test, end_of-Test, more_of-Test}
use Rattle.rules_cells.specs.declared.test.Test as asked

abbrev mutual
  -- Whether the test holds of a cell, its header read at this side. A mask keeps bits of the number before it is compared.
  pub is_met : Side → Test → List ℕ → Bool
  is_met side asked.Any cell = true
  is_met side asked.F5 cell = (pti_of cell == 4) || (pti_of cell == 5)
  is_met side asked.User cell = nat_le (pti_of cell) 3
  is_met side (asked.Compare field mask relation) cell = is_so relation (kept_bits mask (number_in side field cell))
  is_met side (asked.Not' p test) cell = not (is_met side test cell)
  is_met side (asked.AllOf' shape tests) cell = all_are_met side tests cell
  is_met side (asked.AnyOf' shape tests) cell = one_is_met side tests cell

  -- Whether each of these tests holds.
  pub all_are_met : {n : _} → Side → Row_of-Test n → List ℕ → Bool
  all_are_met side end_of-Test cell = true
  all_are_met side (more_of-Test test more) cell = is_met side test cell && all_are_met side more cell

  -- Whether one of these tests holds.
  pub one_is_met : {n : _} → Side → Row_of-Test n → List ℕ → Bool
  one_is_met side end_of-Test cell = false
  one_is_met side (more_of-Test test more) cell = is_met side test cell || one_is_met side more cell
