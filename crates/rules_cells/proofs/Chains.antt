-- The parts of a chain, as the definitions go through them and as a loop does.
use Rattle.std.proofs.Common.{◌≡◌, ℕ, ◌+◌, ◌<◌, List, [], ◌∷◌, ◌++◌, length, take, get_or, Vec, Global, Result, Ok, Err, IfOk, refl, sym, ap, subst, ◌∙◌}
use Rattle.std.proofs.lemmas.List.{take_more}
use mathlib.Core.Former.{Count}
use Rattle.rules_code.specs.Neighbours.{IsAllOf}
use Rattle.rules_code.specs.declared.plain_test.PlainTest.{PlainTest}
use Rattle.rules_code.specs.declared.plain_test.PlainTest as plain
use Rattle.upc_cell.specs.declared.side.Side.{Side}
use Rattle.rules_cells.specs.PlainOf.{IsPlainOf, ArePlainOf}
use Rattle.rules_cells.specs.inner.PlainTests.{ArePlainTests}
use Rattle.rules_cells.specs.declared.test.Test.{Test, AllOf, AllOf', AnyOf, Row_of-Test, end_of-Test, more_of-Test, items-the_row-Test, items_hidden-the_row-Test-0}

-- The parts of a test that each holds. Those of one of which one holds are taken from it with the same parts.
abbrev row_of : Test → (n : Count) × Row_of-Test n
row_of (AllOf' shape row) = (_, row)
row_of _ = (_, end_of-Test)

module _ (side : Side) where
  row_are : (n : _) (row : Row_of-Test n) (tests : List PlainTest) → ArePlainTests side (items-the_row-Test n row) tests → ArePlainOf side row tests
  row_are n end_of-Test [] are = refl
  row_are n end_of-Test (test ∷ tests) are = absurd are
  row_are n (more_of-Test of more) [] are = absurd are
  row_are n (more_of-Test of more) (test ∷ tests) are = (are.0, row_are _ more tests are.1)

  all_are : (of : Vec Test Global) (parts : List Test) (tests : List PlainTest) → parts ≡ of.items → ArePlainTests side parts tests
      → ArePlainOf side (row_of (AllOf of)).1 tests
  all_are of parts tests same are =
      let row = row_of (AllOf of) in
      row_are row.0 row.1 tests (subst (λ (ts : List Test). ArePlainTests side ts tests) (same ∙ sym (items_hidden-the_row-Test-0 of)) are)

  -- What is returned for the parts is what the test becomes.
  pub plain_all : {E : Type 0} (asked : Test) (of : Vec Test Global) (parts : List Test) (result : Result PlainTest E) → asked ≡ AllOf of → parts ≡ of.items
      → IfOk result (λ test. (tests : List PlainTest) × ArePlainTests side parts tests × IsAllOf tests test) → IfOk result (IsPlainOf side asked)
  plain_all asked of parts (Ok test) e same made =
      subst (λ (a : Test). IsPlainOf side a test) (sym e) (made.0, all_are of parts made.0 same made.1, made.2)
  plain_all asked of parts (Err fault) e same made = tt

  pub plain_any : {E : Type 0} (asked : Test) (of : Vec Test Global) (parts : List Test) (result : Result PlainTest E) → asked ≡ AnyOf of → parts ≡ of.items
      → IfOk result (λ test. (tests : Vec PlainTest Global) × ArePlainTests side parts tests.items × (test ≡ plain.AnyOf tests)) → IfOk result (IsPlainOf side asked)
  plain_any asked of parts (Ok test) e same made =
      subst (λ (a : Test). IsPlainOf side a test) (sym e)
      (made.0.items, all_are of parts made.0.items same made.1, record { parts = made.0; test_is = made.2; parts_are = refl })
  plain_any asked of parts (Err fault) e same made = tt

  one_more : (parts : List Test) (tests : List PlainTest) (of : Test) (test : PlainTest) → ArePlainTests side parts tests → IsPlainOf side of test
      → ArePlainTests side (parts ++ of ∷ []) (tests ++ test ∷ [])
  one_more [] [] of test are is = (is, tt)
  one_more [] (t ∷ tests) of test are is = absurd are
  one_more (p ∷ parts) [] of test are is = absurd are
  one_more (p ∷ parts) (t ∷ tests) of test are is = (are.0, one_more parts tests of test are.1 is)

  -- One more part.
  pub tests_more : (parts : List Test) (at : ℕ) (of : Test) (tests new : List PlainTest) (test : PlainTest) → at < length parts → of ≡ get_or parts at of
      → ArePlainTests side (take at parts) tests → IsPlainOf side of test → new ≡ tests ++ test ∷ [] → ArePlainTests side (take (at + 1) parts) new
  tests_more parts at of tests new test lt there are is made =
      let all = one_more (take at parts) tests of test are is in
      let cut = take_more parts at of lt ∙ ap (λ (o : Test). take at parts ++ o ∷ []) (sym there) in
      subst (λ (n : List PlainTest). ArePlainTests side (take (at + 1) parts) n) (sym made) (subst (λ (ps : List Test). ArePlainTests side ps (tests ++ test ∷ [])) (sym cut) all)
