-- How a line of rules is read, token by token from left to right. A token that doesn't fit what was read before it is a
-- fault, and no token after it is looked at.
use Rattle.std.specs.Prelude.{ℕ, ◌+◌, Bool, true, false, not, nat_lt, nat_le, if◌then◌else◌, List, [], ◌∷◌, ◌++◌, length, Option, Some, None, Result, Ok, Err}
use Rattle.bpf_code.specs.declared.instr.Size.{Size}
use Rattle.rules_code.specs.declared.packet_part.Span.{Span}
use Rattle.upc_cell.specs.declared.side.Side.{Side}
use Rattle.upc_cell.specs.declared.side.Side.TheVariants as side_of
use Rattle.rules_text.specs.RulesRead.{FieldRead, vpi_field, vci_field, LineRead, TestRead, any_cell, comparing, negation, conjunction, two_tests, joined_by_and, joined_by_or, compared, listed, rule_line, block_line, end_line}
use Rattle.rules_text.specs.declared.lexer.Sign.{Sign}
use Rattle.rules_text.specs.declared.lexer.Sign.TheVariants.{Equal as equal_sign, Unequal as unequal_sign}
use Rattle.rules_text.specs.RuleTokens.{RuleToken, test_word, name_word, no_room, not_word, and_word, or_word, otherwise_word, side_word, uni_word, nni_word, field_word, size_word, arrow_mark, open_brace, close_brace, open_parenthesis, close_parenthesis, mask_mark, comma_mark, dots_mark, slash_mark, star_mark, sign_mark}
use Rattle.rules_text.specs.Subjects.{header_read, most_of_field, number_within, octets_at_token, value_read}
use Rattle.rules_text.specs.declared.fault.RuleFaultKind.{RuleFaultKind}
use Rattle.rules_text.specs.declared.fault.RuleFaultKind.TheVariants.{BadLine, TooLarge, Unbalanced, TooDeep, TooLong, UnknownName}

-- What the lines before a line say, as far as its reading depends on them.
pub record LineContext : Type 0 where
  -- the side at which headers are read
  pub side : Side
  -- how many blocks are open
  pub blocks : ℕ
  -- whether a line with tokens was read
  pub begun : Bool
  -- how many tokens names may still add
  pub room : ℕ

-- The statement of a line.
pub data StatementRead : Type 0 where
  blank_statement : StatementRead
  side_statement : Side → StatementRead
  line_statement : LineRead → StatementRead
  value_statement : ℕ → StatementRead

-- A field with a mask, if there is one.
pub record SubjectRead : Type 0 where
  pub field : FieldRead
  pub mask : Option ℕ

-- What a list is of: numbers that a field has, numbers that it doesn't have, or channels of a path.
pub data ListRead : Type 0 where
  field_list : SubjectRead → ListRead
  denied_list : SubjectRead → ListRead
  path_list : ℕ → ListRead

-- What was read of a test, or of what is in a parenthesis: the alternatives before the last `or`, the parts after it that are joined by
-- `and`, and whether the next part is denied.
pub record GroupRead : Type 0 where
  pub alternatives : Option TestRead
  pub last_alternative : Option TestRead
  pub negated : Bool

-- What comes next in a line.
pub data Awaited : Type 0 where
  -- the first token
  awaits_start : Awaited
  -- a unit of a test
  awaits_unit : Awaited
  -- `and`, `or`, `)`, or the end of the test
  awaits_operator : Awaited
  -- the offset of octets
  awaits_offset : Size → Awaited
  -- after a field: `&`, a sign or a number
  awaits_relation : SubjectRead → Awaited
  -- the mask of a field
  awaits_mask : SubjectRead → Awaited
  -- after a mask: a sign or a number
  awaits_sign : SubjectRead → Awaited
  -- the number after a sign
  awaits_constant : SubjectRead → Sign → Awaited
  -- after the first number of a range: `..`, `,`, or what comes after a unit
  awaits_dots : ListRead → ℕ → Awaited
  -- the number after `..`
  awaits_high : ListRead → ℕ → Awaited
  -- after a range: `,`, or what comes after a unit
  awaits_comma : ListRead → Span → Awaited
  -- a number of a list, after `,` or a sign
  awaits_low : ListRead → Awaited
  -- `/` after a path
  awaits_slash : ℕ → Awaited
  -- the channels of a path: `*` or a number
  awaits_channel : ℕ → Awaited
  -- `->` after `otherwise`
  awaits_arrow : Awaited
  -- the value of a rule
  awaits_value : Awaited
  -- a value, and nothing after it: that after `otherwise ->`, or the number of a contract
  awaits_only_value : Awaited
  -- the name of the side
  awaits_side : Awaited
  -- nothing more
  awaits_end : Awaited

-- What was read of a line.
pub record Reading : Type 0 where
  -- what comes next
  pub awaited : Awaited
  -- the test, or what is in the innermost open parenthesis
  pub group : GroupRead
  -- what was read around each open parenthesis, the innermost first
  pub around : List GroupRead
  -- the column of the outermost open parenthesis
  pub outermost : ℕ
  -- the ranges of a list before the last `,`
  pub spans : List Span
  -- how many comparisons, words and ranges of lists the test has so far
  pub comparisons : ℕ
  -- the whole test, once `->` came
  pub test : TestRead
  -- the statement of the line
  pub statement : StatementRead

-- Reading goes on, or there is a fault.
abbrev pub LineStep : Type 0
LineStep = Result Reading RuleFaultKind

-- Reads on with what was found, if there is no fault.
abbrev pub found_then : {A B : Type 0} → Result A RuleFaultKind → (A → Result B RuleFaultKind) → Result B RuleFaultKind
found_then (Ok found) next = next found
found_then (Err kind) next = Err kind

-- Nothing of a test was read.
abbrev pub no_group : GroupRead
no_group = record { alternatives = None; last_alternative = None; negated = false }

-- Nothing of a line was read.
abbrev pub nothing_read : Reading
nothing_read = record {
  awaited = awaits_start;
  group = no_group;
  around = [];
  outermost = 0;
  spans = [];
  comparisons = 0;
  test = any_cell;
  statement = blank_statement;
}

-- The test, denied if a `not` applies to it.
abbrev pub negated_if : Bool → TestRead → TestRead
negated_if true test = negation test
negated_if false test = test

-- The parts of an alternative with one more.
abbrev pub and_with : Option TestRead → TestRead → TestRead
and_with None test = test
and_with (Some parts) test = joined_by_and parts test

-- The alternatives with one more.
abbrev pub or_with : Option TestRead → Option TestRead → Option TestRead
or_with None last_alternative = last_alternative
or_with (Some alternatives) None = Some alternatives
or_with (Some alternatives) (Some last_alternative) = Some (joined_by_or alternatives last_alternative)

-- The group with one more part.
abbrev pub group_with : GroupRead → TestRead → GroupRead
group_with group test = record { alternatives = group.alternatives; last_alternative = Some (and_with group.last_alternative (negated_if group.negated test)); negated = false }

-- The group after `or`.
abbrev pub group_after_or : GroupRead → GroupRead
group_after_or group = record { alternatives = or_with group.alternatives group.last_alternative; last_alternative = None; negated = group.negated }

-- The group after `not`.
abbrev pub group_after_not : GroupRead → GroupRead
group_after_not group = record { alternatives = group.alternatives; last_alternative = group.last_alternative; negated = not group.negated }

-- The test of a group.
abbrev pub group_test : GroupRead → Option TestRead
group_test group = or_with group.alternatives group.last_alternative

-- One more comparison is read. A test has at most 4096.
unfoldable pub with_unit : Reading → TestRead → LineStep
with_unit reading test =
    if nat_le 4096 reading.comparisons then Err TooLong else
    Ok (record reading { comparisons = reading.comparisons + 1; group = group_with reading.group test; awaited = awaits_operator })

-- One more range of a list is counted.
unfoldable pub with_range : Reading → Awaited → LineStep
with_range reading awaited =
    if nat_le 4096 reading.comparisons then Err TooLong else
    Ok (record reading { comparisons = reading.comparisons + 1; awaited = awaited })

-- A parenthesis is opened at this column. At most 64 parentheses and blocks are open together.
unfoldable pub with_open_parenthesis : LineContext → ℕ → Reading → LineStep
with_open_parenthesis context column reading =
    if nat_le 64 (context.blocks + length reading.around) then Err TooDeep else
    Ok (record reading {
      around = reading.group ∷ reading.around;
      outermost = (if nat_lt 0 (length reading.around) then reading.outermost else column);
      group = no_group;
      awaited = awaits_unit;
    })

-- What is in a parenthesis is a unit of what is around it.
abbrev pub unit_around : Reading → List GroupRead → Option TestRead → LineStep
unit_around reading [] inner = Err Unbalanced
unit_around reading (group ∷ around) None = Err BadLine
unit_around reading (group ∷ around) (Some test) =
    Ok (record reading { around = around; group = group_with group test; awaited = awaits_operator })

-- A parenthesis is closed.
unfoldable pub with_closed_parenthesis : Reading → LineStep
with_closed_parenthesis reading = unit_around reading reading.around (group_test reading.group)

-- The test of the group, if there is one.
abbrev pub some_test : Option TestRead → Result TestRead RuleFaultKind
some_test None = Err BadLine
some_test (Some test) = Ok test

-- The whole test. Each parenthesis must be closed.
unfoldable pub whole_test : Reading → Result TestRead RuleFaultKind
whole_test reading = if nat_lt 0 (length reading.around) then Err Unbalanced else some_test (group_test reading.group)

-- The statement of the line is this, and nothing comes after it.
abbrev pub with_statement : Reading → StatementRead → Reading
with_statement reading statement = record reading { statement = statement; group = no_group; awaited = awaits_end }

-- `{` after a test.
unfoldable pub with_block : LineContext → Reading → LineStep
with_block context reading = found_then (whole_test reading) (λ test.
    if nat_le 64 context.blocks then Err TooDeep else Ok (with_statement reading (line_statement (block_line test))))

-- `->` after a test.
unfoldable pub with_head : Reading → LineStep
with_head reading = found_then (whole_test reading) (λ test. Ok (record reading { test = test; group = no_group; awaited = awaits_value }))

-- A token after a unit.
unfoldable pub read_operator : LineContext → Reading → RuleToken → LineStep
read_operator context reading and_word = Ok (record reading { awaited = awaits_unit })
read_operator context reading or_word = Ok (record reading { group = group_after_or reading.group; awaited = awaits_unit })
read_operator context reading close_parenthesis = with_closed_parenthesis reading
read_operator context reading open_brace = with_block context reading
read_operator context reading arrow_mark = with_head reading
read_operator context reading _ = Err BadLine

-- A field without a mask.
abbrev pub subject_of : FieldRead → SubjectRead
subject_of field = record { field = field; mask = None }

-- A token where a unit of a test begins.
unfoldable pub read_unit : LineContext → ℕ → Reading → RuleToken → LineStep
read_unit context column reading not_word = Ok (record reading { group = group_after_not reading.group; awaited = awaits_unit })
read_unit context column reading open_parenthesis = with_open_parenthesis context column reading
read_unit context column reading (test_word test) = with_unit reading test
read_unit context column reading (field_word name) =
    found_then (header_read context.side name) (λ field. Ok (record reading { awaited = awaits_relation (subject_of field) }))
read_unit context column reading (size_word size) = Ok (record reading { awaited = awaits_offset size })
read_unit context column reading token =
    found_then (number_within (most_of_field context.side vpi_field) token) (λ path. Ok (record reading { awaited = awaits_slash path }))

-- The first token of a line.
unfoldable pub read_start : LineContext → ℕ → Reading → RuleToken → LineStep
read_start context column reading otherwise_word =
    if nat_lt 0 context.blocks then Err BadLine else Ok (record reading { awaited = awaits_arrow })
read_start context column reading side_word =
    if context.begun then Err BadLine else Ok (record reading { awaited = awaits_side })
read_start context column reading close_brace =
    if nat_lt 0 context.blocks then Ok (record reading { statement = line_statement end_line; awaited = awaits_end }) else Err Unbalanced
read_start context column reading token = read_unit context column reading token

-- The offset of octets.
unfoldable pub read_offset : Size → Reading → RuleToken → LineStep
read_offset size reading token =
    found_then (octets_at_token size token) (λ field. Ok (record reading { awaited = awaits_relation (subject_of field) }))

-- The field whose numbers a list has.
abbrev pub field_of_list : ListRead → FieldRead
field_of_list (field_list subject) = subject.field
field_of_list (denied_list subject) = subject.field
field_of_list (path_list path) = vci_field

-- Cells of this path.
abbrev pub path_test : ℕ → TestRead
path_test path = comparing vpi_field None (compared equal_sign path)

-- What a list with these ranges means.
abbrev pub list_test : ListRead → List Span → TestRead
list_test (field_list subject) spans = comparing subject.field subject.mask (listed spans)
list_test (denied_list subject) spans = negation (comparing subject.field subject.mask (listed spans))
list_test (path_list path) spans = conjunction (two_tests (path_test path) (comparing vci_field None (listed spans)))

-- A number of a list.
unfoldable pub read_low : LineContext → ListRead → Reading → RuleToken → LineStep
read_low context of reading token =
    found_then (number_within (most_of_field context.side (field_of_list of)) token) (λ low. Ok (record reading { awaited = awaits_dots of low }))

-- A sign, or the first number of a list. A list may come after `=` and `!=` too.
unfoldable pub read_sign : LineContext → SubjectRead → Reading → RuleToken → LineStep
read_sign context subject reading (sign_mark equal_sign) = Ok (record reading { awaited = awaits_low (field_list subject) })
read_sign context subject reading (sign_mark unequal_sign) = Ok (record reading { awaited = awaits_low (denied_list subject) })
read_sign context subject reading (sign_mark sign) = Ok (record reading { awaited = awaits_constant subject sign })
read_sign context subject reading token = read_low context (field_list subject) reading token

-- `/` after a path.
unfoldable pub read_slash : ℕ → Reading → RuleToken → LineStep
read_slash path reading slash_mark = Ok (record reading { awaited = awaits_channel path })
read_slash path reading _ = Err BadLine

-- The channels of a path: all of them, or the first number of a list.
unfoldable pub read_channel : LineContext → ℕ → Reading → RuleToken → LineStep
read_channel context path reading star_mark = with_unit reading (path_test path)
read_channel context path reading token = read_low context (path_list path) reading token

-- A token after a field.
unfoldable pub read_relation : LineContext → SubjectRead → Reading → RuleToken → LineStep
read_relation context subject reading mask_mark = Ok (record reading { awaited = awaits_mask subject })
read_relation context subject reading token = read_sign context subject reading token

-- A mask, which the field must be able to have.
unfoldable pub read_mask : LineContext → SubjectRead → Reading → RuleToken → LineStep
read_mask context subject reading token =
    found_then (number_within (most_of_field context.side subject.field) token) (λ mask.
    Ok (record reading { awaited = awaits_sign (record { field = subject.field; mask = Some mask }) }))

-- The number after a sign.
unfoldable pub read_constant : LineContext → SubjectRead → Sign → Reading → RuleToken → LineStep
read_constant context subject sign reading token =
    found_then (number_within (most_of_field context.side subject.field) token) (λ k.
    with_unit reading (comparing subject.field subject.mask (compared sign k)))

-- A list ends with this range. It is a unit of the test.
unfoldable pub with_list : ListRead → Span → Reading → Reading
with_list of span reading =
    record reading { spans = []; group = group_with reading.group (list_test of (reading.spans ++ span ∷ [])); awaited = awaits_operator }

-- A token after a range of a list.
unfoldable pub read_comma : LineContext → ListRead → Span → Reading → RuleToken → LineStep
read_comma context of span reading comma_mark = Ok (record reading { spans = reading.spans ++ span ∷ []; awaited = awaits_low of })
read_comma context of span reading token = read_operator context (with_list of span reading) token

-- The range of one number.
abbrev pub range_of_one : ℕ → Span
range_of_one low = record { low = low; high = low }

-- A token after the first number of a range. Without `..` the range is this number.
unfoldable pub read_dots : LineContext → ListRead → ℕ → Reading → RuleToken → LineStep
read_dots context of low reading dots_mark = Ok (record reading { awaited = awaits_high of low })
read_dots context of low reading token =
    found_then (with_range reading reading.awaited) (λ next. read_comma context of (range_of_one low) next token)

-- The number after `..`, which is at least the first of the range.
unfoldable pub read_high : LineContext → ListRead → ℕ → Reading → RuleToken → LineStep
read_high context of low reading token =
    found_then (number_within (most_of_field context.side (field_of_list of)) token) (λ high.
    if nat_lt high low then Err TooLarge else with_range reading (awaits_comma of (record { low = low; high = high })))

-- `->` after `otherwise`.
unfoldable pub read_arrow : Reading → RuleToken → LineStep
read_arrow reading arrow_mark = Ok (record reading { awaited = awaits_only_value })
read_arrow reading _ = Err BadLine

-- The value of a rule.
unfoldable pub read_value : Reading → RuleToken → LineStep
read_value reading token = found_then (value_read token) (λ value.
    Ok (record reading { test = any_cell; statement = line_statement (rule_line reading.test value); awaited = awaits_end }))

-- A value, and nothing after it: that after `otherwise ->`, or the number of a contract.
unfoldable pub read_only_value : Reading → RuleToken → LineStep
read_only_value reading token =
    found_then (value_read token) (λ value. Ok (record reading { statement = value_statement value; awaited = awaits_end }))

-- The name of the side.
unfoldable pub read_side : Reading → RuleToken → LineStep
read_side reading uni_word = Ok (record reading { statement = side_statement side_of.Uni; awaited = awaits_end })
read_side reading nni_word = Ok (record reading { statement = side_statement side_of.Nni; awaited = awaits_end })
read_side reading _ = Err BadLine

-- A token at this column, where this is awaited.
unfoldable pub read_awaited : Awaited → LineContext → ℕ → Reading → RuleToken → LineStep
read_awaited awaits_start context column reading token = read_start context column reading token
read_awaited awaits_unit context column reading token = read_unit context column reading token
read_awaited awaits_operator context column reading token = read_operator context reading token
read_awaited (awaits_offset size) context column reading token = read_offset size reading token
read_awaited (awaits_relation subject) context column reading token = read_relation context subject reading token
read_awaited (awaits_mask subject) context column reading token = read_mask context subject reading token
read_awaited (awaits_sign subject) context column reading token = read_sign context subject reading token
read_awaited (awaits_constant subject sign) context column reading token = read_constant context subject sign reading token
read_awaited (awaits_dots of low) context column reading token = read_dots context of low reading token
read_awaited (awaits_high of low) context column reading token = read_high context of low reading token
read_awaited (awaits_comma of span) context column reading token = read_comma context of span reading token
read_awaited (awaits_low of) context column reading token = read_low context of reading token
read_awaited (awaits_slash path) context column reading token = read_slash path reading token
read_awaited (awaits_channel path) context column reading token = read_channel context path reading token
read_awaited awaits_arrow context column reading token = read_arrow reading token
read_awaited awaits_value context column reading token = read_value reading token
read_awaited awaits_only_value context column reading token = read_only_value reading token
read_awaited awaits_side context column reading token = read_side reading token
read_awaited awaits_end context column reading token = Err BadLine

-- Whether a token is a word that may be a name.
abbrev pub may_be_name : RuleToken → Bool
may_be_name name_word = true
may_be_name _ = false

-- Whether a token was read in place of a name whose tokens are more than names may add.
abbrev pub lacks_room : RuleToken → Bool
lacks_room no_room = true
lacks_room _ = false

-- The next token. A word that is no name yet, and a name for which there is no room, are faults wherever they come.
abbrev pub read_token : LineContext → ℕ → Reading → RuleToken → LineStep
read_token context column reading token =
    if may_be_name token then Err UnknownName else (
    if lacks_room token then Err TooLong else read_awaited reading.awaited context column reading token)

-- The statement of the line where its tokens end, if it may end there.
abbrev pub statement_at_end : Awaited → StatementRead → Result StatementRead RuleFaultKind
statement_at_end awaits_start statement = Ok statement
statement_at_end awaits_end statement = Ok statement
statement_at_end _ statement = Err BadLine
