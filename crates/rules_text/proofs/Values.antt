-- Rules in memory give each cell the value of what they are written as.
use Rattle.std.proofs.Common.{◌≡◌, ℕ, zero, suc, Bool, true, false, not, ◌&&◌, ◌||◌, if◌then◌else◌, List, [], ◌∷◌, ◌++◌, map, refl, sym, ap, ◌∙◌}
use Rattle.bpf_code.specs.declared.instr.Instr.{Instr}
use Rattle.rules_cells.specs.Fields.{is_so, number_in}
use Rattle.rules_cells.specs.Promise.{FollowsRules}
use Rattle.rules_cells.specs.Rules.{rules_value_from, value_of_rules}
use Rattle.rules_cells.specs.Tests.{is_met, all_are_met, one_is_met}
use Rattle.rules_cells.specs.declared.field.Field.{Field}
use Rattle.rules_cells.specs.declared.field.Field.TheVariants.{Gfc, Vpi, Vci, Pti, Clp, Octets}
use Rattle.rules_cells.specs.declared.relation.Relation.{Relation}
use Rattle.rules_cells.specs.declared.relation.Relation.TheVariants.{Equal, Unequal, Less, AtMost, Greater, AtLeast, In}
use Rattle.rules_cells.specs.declared.rules.RuleLine.{RuleLine}
use Rattle.rules_cells.specs.declared.rules.RuleLine.TheVariants.{Rule, Block, End}
use Rattle.rules_cells.specs.declared.rules.Rules.{Rules}
use Rattle.rules_cells.specs.declared.test.Test.{Test, Row_of-Test, end_of-Test, more_of-Test}
use Rattle.rules_cells.specs.declared.test.Test as asked
use Rattle.rules_code.specs.PlainTests.{is_among, is_in, kept_bits}
use Rattle.rules_code.specs.declared.packet_part.Span.{Span}
use Rattle.upc_cell.specs.declared.side.Side.{Side}
use Rattle.rules_text.specs.RulesRead.{field_read, line_read, relation_read, rules_read, test_read, tests_read}
use Rattle.rules_text.specs.RulesInMemory.{HasRules}
use Rattle.rules_text.specs.ValuesRead.{FollowsText, field_number, lines_give, one_test_holds, relation_holds, rules_give, test_holds, tests_all_hold}

or_swap : (a b c : Bool) → a || (b || c) ≡ b || (a || c)
or_swap true true c = refl
or_swap true false c = refl
or_swap false true c = refl
or_swap false false c = refl

pub among_last : (span : Span) (spans : List Span) (number : ℕ) → is_among (span ∷ spans) number ≡ is_among (spans ++ span ∷ []) number
among_last span [] number = refl
among_last span (first ∷ spans) number =
    or_swap (is_in span number) (is_in first number) (is_among spans number)
    ∙ ap (λ (t : Bool). is_in first number || t) (among_last span spans number)

relation_same : (relation : Relation) (number : ℕ) → is_so relation number ≡ relation_holds (relation_read relation) number
relation_same (Equal k) number = refl
relation_same (Unequal k) number = refl
relation_same (Less k) number = refl
relation_same (AtMost k) number = refl
relation_same (Greater k) number = refl
relation_same (AtLeast k) number = refl
relation_same (In last others) number = among_last last others.items number

field_same : (side : Side) (field : Field) (cell : List ℕ) → number_in side field cell ≡ field_number side (field_read field) cell
field_same side Gfc cell = refl
field_same side Vpi cell = refl
field_same side Vci cell = refl
field_same side Pti cell = refl
field_same side Clp cell = refl
field_same side (Octets octets) cell = refl

module _ (side : Side) (cell : List ℕ) where
  mutual
    pub test_same : (test : Test) → is_met side test cell ≡ test_holds side (test_read test) cell
    test_same asked.Any = refl
    test_same asked.F5 = refl
    test_same asked.User = refl
    test_same (asked.Compare field mask relation) =
        relation_same relation (kept_bits mask (number_in side field cell))
        ∙ ap (λ (n : ℕ). relation_holds (relation_read relation) (kept_bits mask n)) (field_same side field cell)
    test_same (asked.Not' p test) = ap not (test_same test)
    test_same (asked.AllOf' shape tests) = all_same tests
    test_same (asked.AnyOf' shape tests) = one_same tests

    all_same : {n : _} (row : Row_of-Test n) → all_are_met side row cell ≡ tests_all_hold side (tests_read row) cell
    all_same end_of-Test = refl
    all_same (more_of-Test test more) =
        ap (λ b. b && all_are_met side more cell) (test_same test) ∙ ap (λ b. test_holds side (test_read test) cell && b) (all_same more)

    one_same : {n : _} (row : Row_of-Test n) → one_is_met side row cell ≡ one_test_holds side (tests_read row) cell
    one_same end_of-Test = refl
    one_same (more_of-Test test more) =
        ap (λ b. b || one_is_met side more cell) (test_same test) ∙ ap (λ b. test_holds side (test_read test) cell || b) (one_same more)

chosen_same : (a b : Bool) (value other same : ℕ) → a ≡ b → other ≡ same → (if a then value else other) ≡ (if b then value else same)
chosen_same a true value other same e f = rw e refl
chosen_same a false value other same e f = rw e f

both_same : (a b : Bool) (value equal other same : ℕ) → a ≡ b → value ≡ equal → other ≡ same → (if a then value else other) ≡ (if b then equal else same)
both_same a true value equal other same e f g = rw e f
both_same a false value equal other same e f g = rw e g

lines_same : (side : Side) (lines : List RuleLine) (skipped otherwise : ℕ) (cell : List ℕ)
    → rules_value_from side lines skipped otherwise cell ≡ lines_give side (map line_read lines) skipped otherwise cell
lines_same side [] skipped otherwise cell = refl
lines_same side (Rule test value ∷ rest) zero otherwise cell =
    chosen_same (is_met side test cell) (test_holds side (test_read test) cell) value (rules_value_from side rest zero otherwise cell) (lines_give side (map line_read rest) zero otherwise cell) (test_same side cell test) (lines_same side rest zero otherwise cell)
lines_same side (Block test ∷ rest) zero otherwise cell =
    both_same (is_met side test cell) (test_holds side (test_read test) cell) (rules_value_from side rest zero otherwise cell) (lines_give side (map line_read rest) zero otherwise cell) (rules_value_from side rest 1 otherwise cell) (lines_give side (map line_read rest) 1 otherwise cell)
    (test_same side cell test) (lines_same side rest zero otherwise cell) (lines_same side rest 1 otherwise cell)
lines_same side (End ∷ rest) zero otherwise cell = lines_same side rest zero otherwise cell
lines_same side (Rule test value ∷ rest) (suc skipped) otherwise cell = lines_same side rest (suc skipped) otherwise cell
lines_same side (Block test ∷ rest) (suc skipped) otherwise cell = lines_same side rest (suc (suc skipped)) otherwise cell
lines_same side (End ∷ rest) (suc skipped) otherwise cell = lines_same side rest skipped otherwise cell

value_same : (rules : Rules) (cell : List ℕ) → value_of_rules rules cell ≡ rules_give (rules_read rules) cell
value_same rules cell = lines_same rules.side rules.lines.items 0 rules.otherwise cell

-- Code that follows the rules of a text follows the text.
pub follows_text : (octets : List ℕ) (rules : Rules) (code : List Instr) → HasRules octets rules → FollowsRules rules code → FollowsText octets code
follows_text octets rules code read follows = record {
  rules = rules_read rules;
  read = read;
  gives = λ cell is_cell. rw (sym (value_same rules cell)) (follows.gives cell is_cell);
  only = λ cell value steps is_cell ends. follows.only cell value steps is_cell ends ∙ value_same rules cell;
}
