-- A chain with one more part, as it is written.
use Rattle.std.proofs.Common.{◌≡◌, List, [], ◌∷◌, ◌++◌, Vec, Global, refl, sym, ap, ◌∙◌}
use mathlib.Core.Former.{Count}
use Rattle.rules_cells.specs.declared.test.Test.{Test, AllOf, AllOf', AnyOf, Row_of-Test, end_of-Test, more_of-Test, items-the_row-Test, items_hidden-the_row-Test-0}
use Rattle.rules_text.specs.RulesRead.{TestsRead, conjunction, disjunction, joined_by_and, joined_by_or, more_tests, no_tests, test_read, tests_read, tests_with, two_tests}

-- The parts of a test that each holds. Those of one of which one holds are taken from it with the same parts.
abbrev row_of : Test → (n : Count) × Row_of-Test n
row_of (AllOf' shape row) = (_, row)
row_of _ = (_, end_of-Test)

-- The tests of a list as they are written.
abbrev written : List Test → TestsRead
written [] = no_tests
written (test ∷ more) = more_tests (test_read test) (written more)

row_written : (n : _) (row : Row_of-Test n) → tests_read row ≡ written (items-the_row-Test n row)
row_written n end_of-Test = refl
row_written n (more_of-Test test more) = ap (λ (tests : TestsRead). more_tests (test_read test) tests) (row_written _ more)

parts_written : (tests : Vec Test Global) → tests_read (row_of (AllOf tests)).1 ≡ written tests.items
parts_written tests =
    let row = row_of (AllOf tests) in
    row_written row.0 row.1 ∙ ap written (items_hidden-the_row-Test-0 tests)

written_last : (tests : List Test) (test : Test) → written (tests ++ test ∷ []) ≡ tests_with (written tests) (test_read test)
written_last [] test = refl
written_last (first ∷ more) test = ap (λ (tests : TestsRead). more_tests (test_read first) tests) (written_last more test)

one_more_written : (tests new : Vec Test Global) (test : Test) → new.items ≡ tests.items ++ test ∷ []
    → tests_read (row_of (AllOf new)).1 ≡ tests_with (tests_read (row_of (AllOf tests)).1) (test_read test)
one_more_written tests new test made =
    parts_written new ∙ ap written made ∙ written_last tests.items test ∙ ap (λ (ts : TestsRead). tests_with ts (test_read test)) (sym (parts_written tests))

two_written : (new : Vec Test Global) (one other : Test) → new.items ≡ one ∷ other ∷ [] → tests_read (row_of (AllOf new)).1 ≡ two_tests (test_read one) (test_read other)
two_written new one other made = parts_written new ∙ ap written made

-- One more part of a chain of `and`.
pub all_more : (tests new : Vec Test Global) (test : Test) → new.items ≡ tests.items ++ test ∷ [] → test_read (AllOf new) ≡ joined_by_and (test_read (AllOf tests)) (test_read test)
all_more tests new test made = ap conjunction (one_more_written tests new test made)

-- A chain of two parts.
pub all_two : (new : Vec Test Global) (one other : Test) → new.items ≡ one ∷ other ∷ [] → test_read (AllOf new) ≡ conjunction (two_tests (test_read one) (test_read other))
all_two new one other made = ap conjunction (two_written new one other made)

-- One more part of a chain of `or`.
pub one_more : (tests new : Vec Test Global) (test : Test) → new.items ≡ tests.items ++ test ∷ [] → test_read (AnyOf new) ≡ joined_by_or (test_read (AnyOf tests)) (test_read test)
one_more tests new test made = ap disjunction (one_more_written tests new test made)

-- A chain of two parts.
pub one_two : (new : Vec Test Global) (one other : Test) → new.items ≡ one ∷ other ∷ [] → test_read (AnyOf new) ≡ disjunction (two_tests (test_read one) (test_read other))
one_two new one other made = ap disjunction (two_written new one other made)
