-- Rules as they are written. Definitions speak of these; functions such as `test_read` say which rules as written the rules in memory are.
use Rattle.std.specs.Prelude.{ℕ, List, [], ◌∷◌, ◌++◌, map, Option}
use Rattle.bpf_code.specs.declared.instr.Size.{Size}
use Rattle.rules_cells.specs.declared.field.Field.{Field}
use Rattle.rules_cells.specs.declared.field.Field.TheVariants.{Gfc, Vpi, Vci, Pti, Clp, Octets}
use Rattle.rules_cells.specs.declared.relation.Relation.{Relation}
use Rattle.rules_cells.specs.declared.relation.Relation.TheVariants.{Equal, Unequal, Less, AtMost, Greater, AtLeast, In}
use Rattle.rules_cells.specs.declared.rules.RuleLine.{RuleLine}
use Rattle.rules_cells.specs.declared.rules.RuleLine.TheVariants.{Rule, Block, End}
use Rattle.rules_cells.specs.declared.rules.Rules.{Rules}
use Rattle.rules_cells.specs.declared.test.Test.{Test, Row_of-Test, end_of-Test, more_of-Test}
use Rattle.rules_cells.specs.declared.test.Test as asked
use Rattle.rules_code.specs.declared.packet_part.Span.{Span}
use Rattle.rules_text.specs.declared.lexer.Sign.{Sign}
use Rattle.rules_text.specs.declared.lexer.Sign.TheVariants.{Equal as equal_sign, Unequal as unequal_sign, Less as less_sign, AtMost as at_most_sign, Greater as greater_sign, AtLeast as at_least_sign}
use Rattle.upc_cell.specs.declared.side.Side.{Side}

-- A field: one of the header, or the octets from an offset on.
pub data FieldRead : Type 0 where
  gfc_field : FieldRead
  vpi_field : FieldRead
  vci_field : FieldRead
  pti_field : FieldRead
  clp_field : FieldRead
  octets_field : Size → ℕ → FieldRead

-- What a field is compared with: a number, or a list of ranges.
pub data RelationRead : Type 0 where
  compared : Sign → ℕ → RelationRead
  listed : List Span → RelationRead

mutual
  -- A test. What `and` or `or` joins is one chain of tests.
  pub data TestRead : Type 0 where
    any_cell : TestRead
    f5_cell : TestRead
    user_cell : TestRead
    comparing : FieldRead → Option ℕ → RelationRead → TestRead
    negation : TestRead → TestRead
    conjunction : TestsRead → TestRead
    disjunction : TestsRead → TestRead

  -- The tests of a chain, in order.
  pub data TestsRead : Type 0 where
    no_tests : TestsRead
    more_tests : TestRead → TestsRead → TestsRead

-- A line of rules.
pub data LineRead : Type 0 where
  rule_line : TestRead → ℕ → LineRead
  block_line : TestRead → LineRead
  end_line : LineRead

-- The tests of a chain, and one more after them.
abbrev pub tests_with : TestsRead → TestRead → TestsRead
tests_with no_tests last = more_tests last no_tests
tests_with (more_tests test more) last = more_tests test (tests_with more last)

-- Two tests as a chain.
abbrev pub two_tests : TestRead → TestRead → TestsRead
two_tests one other = more_tests one (more_tests other no_tests)

-- A test, and one that `and` joins to it. A chain of `and` has one more test then; so parentheses around the beginning of a chain
-- change nothing.
abbrev pub joined_by_and : TestRead → TestRead → TestRead
joined_by_and (conjunction tests) test = conjunction (tests_with tests test)
joined_by_and before test = conjunction (two_tests before test)

-- A test, and one that `or` joins to it, in the same way.
abbrev pub joined_by_or : TestRead → TestRead → TestRead
joined_by_or (disjunction tests) test = disjunction (tests_with tests test)
joined_by_or before test = disjunction (two_tests before test)

-- All rules of a text.
pub record RulesRead : Type 0 where
  pub side : Side
  pub lines : List LineRead
  pub otherwise : ℕ

-- A field as it is written.
abbrev pub field_read : Field → FieldRead
field_read Gfc = gfc_field
field_read Vpi = vpi_field
field_read Vci = vci_field
field_read Pti = pti_field
field_read Clp = clp_field
field_read (Octets octets) = octets_field octets.size octets.at

-- A relation as it is written. The last range of a list is kept apart.
abbrev pub relation_read : Relation → RelationRead
relation_read (Equal k) = compared equal_sign k
relation_read (Unequal k) = compared unequal_sign k
relation_read (Less k) = compared less_sign k
relation_read (AtMost k) = compared at_most_sign k
relation_read (Greater k) = compared greater_sign k
relation_read (AtLeast k) = compared at_least_sign k
relation_read (In last others) = listed (others.items ++ last ∷ [])

abbrev mutual
  -- A test as it is written.
  pub test_read : Test → TestRead
  test_read asked.Any = any_cell
  test_read asked.F5 = f5_cell
  test_read asked.User = user_cell
  test_read (asked.Compare field mask relation) = comparing (field_read field) mask (relation_read relation)
  test_read (asked.Not' p test) = negation (test_read test)
  test_read (asked.AllOf' shape tests) = conjunction (tests_read tests)
  test_read (asked.AnyOf' shape tests) = disjunction (tests_read tests)

  -- The tests of a chain as they are written.
  pub tests_read : {n : _} → Row_of-Test n → TestsRead
  tests_read end_of-Test = no_tests
  tests_read (more_of-Test test more) = more_tests (test_read test) (tests_read more)

-- A line as it is written.
abbrev pub line_read : RuleLine → LineRead
line_read (Rule test value) = rule_line (test_read test) value
line_read (Block test) = block_line (test_read test)
line_read End = end_line

-- Rules as they are written.
abbrev pub rules_read : Rules → RulesRead
rules_read rules = record { side = rules.side; lines = map line_read rules.lines.items; otherwise = rules.otherwise }
