-- The value that rules give a cell, by the rules as they are written (`RulesRead`). `Rules.antt` of rules_cells defines it by the rules in
-- memory.
use Rattle.std.specs.Prelude.{◌≡◌, ℕ, zero, suc, Bool, true, false, not, ◌&&◌, ◌||◌, ◌==◌, nat_le, nat_lt, if◌then◌else◌, List, [], ◌∷◌, drop, Ok}
use Rattle.bpf_code.specs.declared.instr.Instr.{Instr}
use Rattle.bpf_interp.specs.Packet.{octets_loaded}
use Rattle.bpf_interp.specs.Value.{Value}
use Rattle.byteorder.specs.Endian.{big_number}
use Rattle.rules_cells.specs.Fields.{IsCell}
use Rattle.rules_code.specs.PlainTests.{is_among, kept_bits}
use Rattle.upc_cell.specs.Header.{gfc_of, vci_of, pti_of, clp_of}
use Rattle.upc_cell.specs.Side.{vpi_at}
use Rattle.upc_cell.specs.declared.side.Side.{Side}
use Rattle.rules_text.specs.RulesRead.{FieldRead, gfc_field, vpi_field, vci_field, pti_field, clp_field, octets_field, RelationRead, compared, listed, TestRead, any_cell, f5_cell, user_cell, comparing, negation, conjunction, disjunction, TestsRead, no_tests, more_tests, LineRead, rule_line, block_line, end_line, RulesRead}
use Rattle.rules_text.specs.declared.lexer.Sign.{Sign}
use Rattle.rules_text.specs.declared.lexer.Sign.TheVariants.{Equal as equal_sign, Unequal as unequal_sign, Less as less_sign, AtMost as at_most_sign, Greater as greater_sign, AtLeast as at_least_sign}
use Rattle.rules_text.specs.TextOfRules.{rules_in}

-- The number that a cell has in a field, its header read at this side.
abbrev pub field_number : Side → FieldRead → List ℕ → ℕ
field_number side gfc_field cell = gfc_of cell
field_number side vpi_field cell = vpi_at side cell
field_number side vci_field cell = vci_of cell
field_number side pti_field cell = pti_of cell
field_number side clp_field cell = clp_of cell
field_number side (octets_field size at) cell = big_number (octets_loaded size) (drop at cell)

-- Whether a number is related to another as the sign says.
abbrev pub sign_holds : Sign → ℕ → ℕ → Bool
sign_holds equal_sign k number = number == k
sign_holds unequal_sign k number = not (number == k)
sign_holds less_sign k number = nat_lt number k
sign_holds at_most_sign k number = nat_le number k
sign_holds greater_sign k number = nat_lt k number
sign_holds at_least_sign k number = nat_le k number

-- Whether a number is as the relation says: as the sign, or in one of the ranges.
abbrev pub relation_holds : RelationRead → ℕ → Bool
relation_holds (compared sign k) number = sign_holds sign k number
relation_holds (listed spans) number = is_among spans number

abbrev mutual
  -- Whether a test holds of a cell.
  pub test_holds : Side → TestRead → List ℕ → Bool
  test_holds side any_cell cell = true
  test_holds side f5_cell cell = (pti_of cell == 4) || (pti_of cell == 5)
  test_holds side user_cell cell = nat_le (pti_of cell) 3
  test_holds side (comparing field mask relation) cell = relation_holds relation (kept_bits mask (field_number side field cell))
  test_holds side (negation test) cell = not (test_holds side test cell)
  test_holds side (conjunction tests) cell = tests_all_hold side tests cell
  test_holds side (disjunction tests) cell = one_test_holds side tests cell

  -- Whether each test of a chain holds.
  pub tests_all_hold : Side → TestsRead → List ℕ → Bool
  tests_all_hold side no_tests cell = true
  tests_all_hold side (more_tests test more) cell = test_holds side test cell && tests_all_hold side more cell

  -- Whether one test of a chain holds.
  pub one_test_holds : Side → TestsRead → List ℕ → Bool
  one_test_holds side no_tests cell = false
  one_test_holds side (more_tests test more) cell = test_holds side test cell || one_test_holds side more cell

-- The value of lines on a cell, after this many blocks whose test doesn't hold were entered and not yet left. Their lines
-- are passed over. Where no rule gives a value, it is the one for all other cells.
abbrev pub lines_give : Side → List LineRead → ℕ → ℕ → List ℕ → ℕ
lines_give side [] skipped otherwise cell = otherwise
lines_give side (rule_line test value ∷ rest) zero otherwise cell =
    if test_holds side test cell then value else lines_give side rest zero otherwise cell
lines_give side (block_line test ∷ rest) zero otherwise cell =
    if test_holds side test cell then lines_give side rest zero otherwise cell else lines_give side rest 1 otherwise cell
lines_give side (end_line ∷ rest) zero otherwise cell = lines_give side rest zero otherwise cell
lines_give side (rule_line test value ∷ rest) (suc skipped) otherwise cell = lines_give side rest (suc skipped) otherwise cell
lines_give side (block_line test ∷ rest) (suc skipped) otherwise cell = lines_give side rest (suc (suc skipped)) otherwise cell
lines_give side (end_line ∷ rest) (suc skipped) otherwise cell = lines_give side rest skipped otherwise cell

-- The value of rules on a cell.
abbrev pub rules_give : RulesRead → List ℕ → ℕ
rules_give rules cell = lines_give rules.side rules.lines 0 rules.otherwise cell

-- The text has rules, and on every cell the machine gives their value, and no other.
pub record FollowsText (octets : List ℕ) (code : List Instr) : Type 0 where
  pub rules : RulesRead
  pub read : rules_in octets ≡ Ok rules
  pub gives : (cell : List ℕ) → IsCell cell → (steps : ℕ) × Value code cell (rules_give rules cell) steps
  pub only : (cell : List ℕ) (value steps : ℕ) → IsCell cell → Value code cell value steps → value ≡ rules_give rules cell
