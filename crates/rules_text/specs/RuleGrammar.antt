-- The grammar of tests: every way to write one, its tokens, and what it means. The reader of lines reads each of them as
-- this, within its limits: the law `rules_are_read_as_they_are_written` says so.
use Rattle.std.specs.Prelude.{◌≡◌, ◌+◌, ◌≤◌, ◌<◌, ℕ, Bool, not, false, List, [], ◌∷◌, ◌++◌, length, Option, Some, None, Ok}
use Rattle.rules_code.specs.declared.packet_part.Span.{Span}
use Rattle.rules_text.specs.LineGrammar.{LineContext, ListRead, field_list, denied_list, path_list, SubjectRead, field_of_list, list_test, negated_if, path_test}
use Rattle.rules_text.specs.RulesRead.{FieldRead, vpi_field, octets_field, TestRead, comparing, joined_by_and, joined_by_or, compared}
use Rattle.rules_text.specs.declared.lexer.Sign.{Sign}
use Rattle.rules_text.specs.declared.lexer.Sign.TheVariants.{Equal as equal_sign, Unequal as unequal_sign, Less as less_sign, AtMost as at_most_sign, Greater as greater_sign, AtLeast as at_least_sign}
use Rattle.rules_text.specs.RuleTokens.{RuleToken, test_word, not_word, and_word, or_word, field_word, size_word, number_word, open_parenthesis, close_parenthesis, mask_mark, comma_mark, dots_mark, slash_mark, star_mark, sign_mark}
use Rattle.rules_text.specs.Subjects.{header_read, most_of_field, octets_read}

-- A range: a number, with `..` and another one if there is one.
pub record RangeForm : Type 0 where
  pub low : ℕ
  pub high : Option ℕ

-- A sign that orders numbers.
pub data OrderForm : Type 0 where
  less_order : OrderForm
  at_most_order : OrderForm
  greater_order : OrderForm
  at_least_order : OrderForm

-- What comes before a list: a field with its mask, and then nothing, `=` or `!=`; or a path and `/`.
pub data HeadForm : Type 0 where
  bare_head : SubjectRead → HeadForm
  equal_head : SubjectRead → HeadForm
  unequal_head : SubjectRead → HeadForm
  path_head : ℕ → HeadForm

mutual
  -- A unit of a test: a word that is a test; a field that is compared; a list of ranges, the last of which is kept apart; all channels of a
  -- path; and what `not` and parentheses make of others.
  pub data UnitForm : Type 0 where
    word_unit : TestRead → UnitForm
    order_unit : SubjectRead → OrderForm → ℕ → UnitForm
    list_unit : HeadForm → List RangeForm → RangeForm → UnitForm
    path_unit : ℕ → UnitForm
    not_unit : UnitForm → UnitForm
    parenthesis_unit : TestForm → UnitForm

  -- Units that are joined by `and`.
  pub data PartForm : Type 0 where
    one_unit : UnitForm → PartForm
    and_unit : PartForm → UnitForm → PartForm

  -- Parts that are joined by `or`.
  pub data TestForm : Type 0 where
    one_part : PartForm → TestForm
    or_part : TestForm → PartForm → TestForm

-- The tokens of a field.
abbrev pub field_tokens : FieldRead → List RuleToken
field_tokens (octets_field size at) = size_word size ∷ number_word at ∷ []
field_tokens field = field_word field ∷ []

-- The tokens of a mask, if there is one.
abbrev pub mask_tokens : Option ℕ → List RuleToken
mask_tokens None = []
mask_tokens (Some mask) = mask_mark ∷ number_word mask ∷ []

-- The tokens of a field with its mask.
abbrev pub subject_tokens : SubjectRead → List RuleToken
subject_tokens subject = field_tokens subject.field ++ mask_tokens subject.mask

-- The sign.
abbrev pub order_sign : OrderForm → Sign
order_sign less_order = less_sign
order_sign at_most_order = at_most_sign
order_sign greater_order = greater_sign
order_sign at_least_order = at_least_sign

-- The tokens before a list.
abbrev pub head_tokens : HeadForm → List RuleToken
head_tokens (bare_head subject) = subject_tokens subject
head_tokens (equal_head subject) = subject_tokens subject ++ (sign_mark equal_sign ∷ [])
head_tokens (unequal_head subject) = subject_tokens subject ++ (sign_mark unequal_sign ∷ [])
head_tokens (path_head path) = number_word path ∷ slash_mark ∷ []

-- The tokens after the first number of a range.
abbrev pub high_tokens : Option ℕ → List RuleToken
high_tokens None = []
high_tokens (Some high) = dots_mark ∷ number_word high ∷ []

-- The tokens of a list.
abbrev pub list_tokens : List RangeForm → RangeForm → List RuleToken
list_tokens [] last = number_word last.low ∷ high_tokens last.high
list_tokens (range ∷ ranges) last = number_word range.low ∷ (high_tokens range.high ++ (comma_mark ∷ list_tokens ranges last))

abbrev mutual
  -- The tokens of a unit.
  pub unit_tokens : UnitForm → List RuleToken
  unit_tokens (word_unit test) = test_word test ∷ []
  unit_tokens (order_unit subject order k) = subject_tokens subject ++ (sign_mark (order_sign order) ∷ number_word k ∷ [])
  unit_tokens (list_unit head ranges last) = head_tokens head ++ list_tokens ranges last
  unit_tokens (path_unit path) = number_word path ∷ slash_mark ∷ star_mark ∷ []
  unit_tokens (not_unit unit) = not_word ∷ unit_tokens unit
  unit_tokens (parenthesis_unit test) = open_parenthesis ∷ (test_tokens test ++ (close_parenthesis ∷ []))

  -- The tokens of a part.
  pub units_tokens : PartForm → List RuleToken
  units_tokens (one_unit unit) = unit_tokens unit
  units_tokens (and_unit part unit) = units_tokens part ++ (and_word ∷ unit_tokens unit)

  -- The tokens of a test.
  pub test_tokens : TestForm → List RuleToken
  test_tokens (one_part part) = units_tokens part
  test_tokens (or_part test part) = test_tokens test ++ (or_word ∷ units_tokens part)

-- The range of numbers that is written.
abbrev pub span_from : ℕ → Option ℕ → Span
span_from low None = record { low = low; high = low }
span_from low (Some high) = record { low = low; high = high }

-- The ranges of a list.
abbrev pub spans_written : List RangeForm → RangeForm → List Span
spans_written [] last = span_from last.low last.high ∷ []
spans_written (range ∷ ranges) last = span_from range.low range.high ∷ spans_written ranges last

-- What a list is of.
abbrev pub list_of_head : HeadForm → ListRead
list_of_head (bare_head subject) = field_list subject
list_of_head (equal_head subject) = field_list subject
list_of_head (unequal_head subject) = denied_list subject
list_of_head (path_head path) = path_list path

abbrev mutual
  -- What a unit means, denied if an odd number of `not` comes before it.
  pub unit_written : Bool → UnitForm → TestRead
  unit_written denied (word_unit test) = negated_if denied test
  unit_written denied (order_unit subject order k) = negated_if denied (comparing subject.field subject.mask (compared (order_sign order) k))
  unit_written denied (list_unit head ranges last) = negated_if denied (list_test (list_of_head head) (spans_written ranges last))
  unit_written denied (path_unit path) = negated_if denied (path_test path)
  unit_written denied (not_unit unit) = unit_written (not denied) unit
  unit_written denied (parenthesis_unit test) = negated_if denied (test_written test)

  -- What a part means.
  pub part_written : PartForm → TestRead
  part_written (one_unit unit) = unit_written false unit
  part_written (and_unit part unit) = joined_by_and (part_written part) (unit_written false unit)

  -- What a test means.
  pub test_written : TestForm → TestRead
  test_written (one_part part) = part_written part
  test_written (or_part test part) = joined_by_or (test_written test) (part_written part)

-- The field can be named at this side, and its octets are in the cell.
abbrev pub FieldFits : LineContext → FieldRead → Type 0
FieldFits context (octets_field size at) = octets_read size at ≡ Ok (octets_field size at)
FieldFits context field = header_read context.side field ≡ Ok field

-- The field can have the mask, if there is one.
abbrev pub MaskFits : ℕ → Option ℕ → Type 0
MaskFits most None = Unit {0}
MaskFits most (Some mask) = mask ≤ most

-- The field fits, and its mask.
pub record SubjectFits (context : LineContext) (subject : SubjectRead) : Type 0 where
  pub field : FieldFits context subject.field
  pub mask : MaskFits (most_of_field context.side subject.field) subject.mask

-- The second number of a range is within these bounds, if there is one.
abbrev pub HighFits : ℕ → ℕ → Option ℕ → Type 0
HighFits low most None = Unit {0}
HighFits low most (Some high) = (low ≤ high) × (high ≤ most)

-- The field can have the numbers of a range, which isn't empty.
pub record RangeFits (most : ℕ) (range : RangeForm) : Type 0 where
  pub low : range.low ≤ most
  pub high : HighFits range.low most range.high

-- The field can have the numbers of a list.
abbrev pub ListFits : ℕ → List RangeForm → RangeForm → Type 0
ListFits most [] last = RangeFits most last
ListFits most (range ∷ ranges) last = RangeFits most range × ListFits most ranges last

-- The field before a list fits, or the path.
abbrev pub HeadFits : LineContext → HeadForm → Type 0
HeadFits context (bare_head subject) = SubjectFits context subject
HeadFits context (equal_head subject) = SubjectFits context subject
HeadFits context (unequal_head subject) = SubjectFits context subject
HeadFits context (path_head path) = path ≤ most_of_field context.side vpi_field

abbrev mutual
  -- The numbers of a unit fit their fields. `deep` parentheses and blocks are open before the unit, and in it never more than 64.
  pub UnitFits : LineContext → ℕ → UnitForm → Type 0
  UnitFits context deep (word_unit test) = Unit {0}
  UnitFits context deep (order_unit subject order k) = SubjectFits context subject × (k ≤ most_of_field context.side subject.field)
  UnitFits context deep (list_unit head ranges last) = HeadFits context head × ListFits (most_of_field context.side (field_of_list (list_of_head head))) ranges last
  UnitFits context deep (path_unit path) = path ≤ most_of_field context.side vpi_field
  UnitFits context deep (not_unit unit) = UnitFits context deep unit
  UnitFits context deep (parenthesis_unit test) = (deep < 64) × TestFits context (deep + 1) test

  -- A part fits if each of its units does.
  pub PartFits : LineContext → ℕ → PartForm → Type 0
  PartFits context deep (one_unit unit) = UnitFits context deep unit
  PartFits context deep (and_unit part unit) = PartFits context deep part × UnitFits context deep unit

  -- A test fits if each of its parts does.
  pub TestFits : LineContext → ℕ → TestForm → Type 0
  TestFits context deep (one_part part) = PartFits context deep part
  TestFits context deep (or_part test part) = TestFits context deep test × PartFits context deep part

abbrev mutual
  -- How many comparisons with an order, words, paths with `*` and ranges of lists a unit has.
  pub unit_count : UnitForm → ℕ
  unit_count (word_unit test) = 1
  unit_count (order_unit subject order k) = 1
  unit_count (list_unit head ranges last) = length ranges + 1
  unit_count (path_unit path) = 1
  unit_count (not_unit unit) = unit_count unit
  unit_count (parenthesis_unit test) = test_count test

  -- How many of these a part has.
  pub part_count : PartForm → ℕ
  part_count (one_unit unit) = unit_count unit
  part_count (and_unit part unit) = part_count part + unit_count unit

  -- How many of these a test has.
  pub test_count : TestForm → ℕ
  test_count (one_part part) = part_count part
  test_count (or_part test part) = test_count test + part_count part
