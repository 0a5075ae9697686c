-- What the readers have read, in the words of the definitions.
use Rattle.std.specs.Prelude.{◌≡◌, ◌≢◌, map, reverse, List, Option, Some, None, Result, Ok, Err}
use Rattle.rules_cells.specs.declared.field.Field.{Field}
use Rattle.rules_cells.specs.declared.test.Test.{Test}
use Rattle.rules_text.specs.LineGrammar.{Awaited, GroupRead, LineContext, LineStep, ListRead, field_list, denied_list, path_list, Reading, StatementRead, SubjectRead, awaits_start, awaits_unit, awaits_operator, awaits_offset, awaits_relation, awaits_mask, awaits_sign, awaits_constant, awaits_dots, awaits_high, awaits_comma, awaits_low, awaits_slash, awaits_channel, awaits_arrow, awaits_value, awaits_only_value, awaits_side, awaits_end, blank_statement, side_statement, line_statement, value_statement}
use Rattle.rules_text.specs.RulesRead.{FieldRead, TestRead, field_read, line_read, test_read}
use Rattle.rules_text.specs.TextOfRules.{TextReading}
use Rattle.rules_text.specs.Names.{FormRead, rule_form, value_form, test_form, list_form, NameRead}
use Rattle.rules_text.specs.declared.fault.RuleFaultKind.{RuleFaultKind}
use Rattle.rules_text.specs.declared.fault.RuleFaultKind.TheVariants.{NoMemory}
use Rattle.rules_text.specs.declared.group.Group.{Group}
use Rattle.rules_text.specs.declared.line_reader.Context.{Context}
use Rattle.rules_text.specs.declared.line_reader.LineReader.{LineReader}
use Rattle.rules_text.specs.declared.line_reader.Statement.{Statement}
use Rattle.rules_text.specs.declared.line_reader.Statement.TheVariants as statement
use Rattle.rules_text.specs.declared.line_reader.Wants.{Wants}
use Rattle.rules_text.specs.declared.line_reader.Wants.TheVariants as wants
use Rattle.rules_text.specs.declared.reader.TextReader.{TextReader}
use Rattle.rules_text.specs.declared.subject.ListOf.{ListOf}
use Rattle.rules_text.specs.declared.subject.ListOf.TheVariants as list
use Rattle.rules_text.specs.declared.subject.Subject.{Subject}
use Rattle.rules_text.specs.declared.names.Form.{Form}
use Rattle.rules_text.specs.declared.names.Form.TheVariants as form
use Rattle.rules_text.specs.declared.names.Name.{Name}
use Rattle.rules_text.specs.declared.names.NameTable.{NameTable}
use Rattle.rules_text.specs.SeenTokens.{rule_token_seen}

-- A field with a mask.
abbrev pub subject_seen : Subject → SubjectRead
subject_seen subject = record { field = field_read subject.field; mask = subject.mask }

-- What a list is of.
abbrev pub list_seen : ListOf → ListRead
list_seen (list.Field subject) = field_list (subject_seen subject)
list_seen (list.Denied subject) = denied_list (subject_seen subject)
list_seen (list.Path path) = path_list path

-- What comes next.
abbrev pub wants_seen : Wants → Awaited
wants_seen wants.Start = awaits_start
wants_seen wants.Unit = awaits_unit
wants_seen wants.Operator = awaits_operator
wants_seen (wants.Offset size) = awaits_offset size
wants_seen (wants.Relation subject) = awaits_relation (subject_seen subject)
wants_seen (wants.Mask subject) = awaits_mask (subject_seen subject)
wants_seen (wants.Sign subject) = awaits_sign (subject_seen subject)
wants_seen (wants.Constant subject sign) = awaits_constant (subject_seen subject) sign
wants_seen (wants.Dots of low) = awaits_dots (list_seen of) low
wants_seen (wants.High of low) = awaits_high (list_seen of) low
wants_seen (wants.Comma of span) = awaits_comma (list_seen of) span
wants_seen (wants.Low of) = awaits_low (list_seen of)
wants_seen (wants.Slash path) = awaits_slash path
wants_seen (wants.Channel path) = awaits_channel path
wants_seen wants.Arrow = awaits_arrow
wants_seen wants.Value = awaits_value
wants_seen wants.OnlyValue = awaits_only_value
wants_seen wants.Side = awaits_side
wants_seen wants.End = awaits_end

-- A test, if there is one.
abbrev pub some_test_seen : Option Test → Option TestRead
some_test_seen None = None
some_test_seen (Some test) = Some (test_read test)

-- A group of parts of a test.
abbrev pub group_seen : Group → GroupRead
group_seen group = record { alternatives = some_test_seen group.alternatives; last_alternative = some_test_seen group.last_alternative; negated = group.negated }

-- The statement of a line.
abbrev pub line_statement_seen : Statement → StatementRead
line_statement_seen statement.Blank = blank_statement
line_statement_seen (statement.Side side) = side_statement side
line_statement_seen (statement.Line line) = line_statement (line_read line)
line_statement_seen (statement.Value value) = value_statement value

-- What was read before a line.
abbrev pub context_seen : Context → LineContext
context_seen context = record { side = context.side; blocks = context.blocks; begun = context.begun; room = context.room }

-- What was read of a line.
abbrev pub reading_seen : LineReader → Reading
reading_seen reader = record {
  awaited = wants_seen reader.wants;
  group = group_seen reader.group;
  around = reverse (map group_seen reader.around.items);
  outermost = reader.outermost;
  spans = reader.spans.items;
  comparisons = reader.comparisons;
  test = test_read reader.test;
  statement = line_statement_seen reader.statement;
}

-- A reader takes this step: afterwards it has read what the step gives, or it returns the fault of the step.
abbrev pub TakesLineStep : {A : Type 0} → Result A RuleFaultKind → LineReader → LineStep → Type 0
TakesLineStep (Ok done) reader step = step ≡ Ok (reading_seen reader)
TakesLineStep (Err kind) reader step = step ≡ Err kind

-- A reader takes this step, unless an allocation fails.
abbrev pub TakesLineStepOrNoMemory : {A : Type 0} → Result A RuleFaultKind → LineReader → LineStep → Type 0
TakesLineStepOrNoMemory (Ok done) reader step = step ≡ Ok (reading_seen reader)
TakesLineStepOrNoMemory (Err kind) reader step = kind ≢ NoMemory → step ≡ Err kind

-- A name.
abbrev pub name_seen : Name → NameRead
name_seen name = record { letters = name.letters.items; tokens = map rule_token_seen name.tokens.items }

-- The names of a text, in the order in which they were given.
abbrev pub names_seen : NameTable → List NameRead
names_seen names = map name_seen names.given.items

-- What is read of a line.
abbrev pub form_seen : Form → FormRead
form_seen form.Rule = rule_form
form_seen form.Value = value_form
form_seen form.Test = test_form
form_seen form.List = list_form

-- What was read of a text.
abbrev pub text_seen : TextReader → TextReading
text_seen reader = record {
  side = reader.rules.side;
  lines = map line_read reader.rules.lines.items;
  begins = reader.begins.items;
  names = names_seen reader.names;
  room = reader.room;
  otherwise = reader.rules.otherwise;
  blocks = reader.blocks;
  head = reader.head;
  begun = reader.begun;
  closed = reader.closed;
}

-- A field, or the fault.
abbrev pub field_found : Result Field RuleFaultKind → Result FieldRead RuleFaultKind
field_found (Ok field) = Ok (field_read field)
field_found (Err kind) = Err kind

-- The statement of a line, or its fault.
abbrev pub statement_found : {E : Type 0} → Result Statement E → Result StatementRead E
statement_found (Ok statement) = Ok (line_statement_seen statement)
statement_found (Err fault) = Err fault
