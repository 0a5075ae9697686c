-- A line that is read as a rule, or as the head of a block, has the tokens of a test of the grammar, and is what they mean.
use Rattle.std.proofs.Common.{◌≡◌, ◌+◌, nat_le, nat_lt, ℕ, Bool, true, false, if◌then◌else◌, List, [], ◌∷◌, ◌++◌, map, Some, None, Result, Ok, Err, refl, sym, ap, ◌∙◌, subst, append_assoc, append-nil}
use Rattle.bpf_code.specs.declared.instr.Size.{Size}
use Rattle.upc_cell.specs.declared.side.Side.TheVariants.{Uni, Nni}
use Rattle.rules_text.specs.Laws.{IsHeadWritten, IsRuleWritten}
use Rattle.rules_text.specs.LineGrammar.{Awaited, field_of_list, LineContext, ListRead, field_list, denied_list, path_list, Reading, StatementRead, SubjectRead, awaits_start, awaits_unit, awaits_operator, awaits_offset, awaits_relation, awaits_mask, awaits_sign, awaits_constant, awaits_dots, awaits_high, awaits_comma, awaits_low, awaits_slash, awaits_channel, awaits_arrow, awaits_value, awaits_only_value, awaits_side, awaits_end, blank_statement, group_after_or, group_test, group_with, lacks_room, line_statement, list_test, value_statement, side_statement, may_be_name, negated_if, no_group, nothing_read, path_test, range_of_one, read_arrow, read_awaited, read_channel, read_comma, read_constant, read_dots, read_high, read_low, read_mask, read_offset, read_operator, read_relation, read_only_value, read_side, read_sign, read_slash, read_start, read_token, read_value, statement_at_end, subject_of, whole_test, with_block, with_closed_parenthesis, with_head, with_list, with_range, with_unit}
use Rattle.rules_text.specs.RuleGrammar.{HeadForm, bare_head, equal_head, unequal_head, path_head, OrderForm, less_order, at_most_order, greater_order, at_least_order, RangeForm, TestForm, order_unit, path_unit, list_unit, field_tokens, head_tokens, list_of_head, list_tokens, mask_tokens, order_sign, spans_written, subject_tokens, test_tokens, test_written, unit_tokens}
use Rattle.rules_text.specs.RulesRead.{any_cell, TestRead, block_line, comparing, compared, end_line, rule_line}
use Rattle.rules_text.specs.declared.lexer.Sign.{Sign}
use Rattle.rules_text.specs.declared.lexer.Sign.TheVariants.{Equal as equal_sign, Unequal as unequal_sign, Less as less_sign, AtMost as at_most_sign, Greater as greater_sign, AtLeast as at_least_sign}
use Rattle.rules_text.specs.RuleTokens.{RuleFound, RuleToken, and_word, arrow_mark, close_brace, close_parenthesis, comma_mark, dots_mark, mask_mark, number_word, open_brace, or_word, otherwise_word, side_word, sign_mark, size_word, slash_mark, star_mark, uni_word, nni_word}
use Rattle.rules_text.specs.Subjects.{most_of_field, number_within, octets_at_token, value_read}
use Rattle.rules_text.specs.TextOfRules.{fault_column, read_then, statement_from, fault_in_line}
use Rattle.rules_text.specs.declared.fault.RuleFaultKind.TheVariants.{BadLine, TooDeep, TooLarge, TooLong, Unbalanced, UnknownName}
use Rattle.rules_text.proofs.TestBeginnings.{AreOpen, Explained, ExplainedAt, InClosed, InList, InOpen, IsOpen, StatementWritten, grown, in_moved, made_by, no_form, number_ok, octets_ok, ok_is, range_span, range_tokens, ranges_tokens, renamed, same_statement, step_to, then_ok, unit_begins, unit_closes, unit_read, unless_ok}
use Rattle.rules_text.proofs.GrammarGroups.{after_and, after_or, parenthesis_closes, whole_ok}

operator_read : (context : LineContext) (tokens : List RuleToken) (reading next : Reading) (token : RuleToken)
    → read_operator context reading token ≡ Ok next → InClosed tokens reading → reading.spans ≡ [] → Explained (tokens ++ (token ∷ [])) next
unfolding read_operator with_closed_parenthesis with_block with_head
operator_read context tokens reading next and_word e closed none =
    let made : Reading = record reading { awaited = awaits_unit } in
    made_by (tokens ++ (and_word ∷ [])) made next (Ok made) e refl (after_and tokens reading closed, none)
operator_read context tokens reading next or_word e closed none =
    let made : Reading = record reading { group = group_after_or reading.group; awaited = awaits_unit } in
    made_by (tokens ++ (or_word ∷ [])) made next (Ok made) e refl (after_or tokens reading closed, none)
operator_read context tokens reading next close_parenthesis e closed none =
    parenthesis_closes tokens reading next reading.around (group_test reading.group) refl refl e closed none
operator_read context tokens reading next open_brace e closed none =
    let found = then_ok (whole_test reading) (λ test.
    if nat_le 64 context.blocks then Err TooDeep else Ok (record reading { statement = line_statement (block_line test); group = no_group; awaited = awaits_end })) next e in
    let test = found.0 in
    let made : Reading = record reading { statement = line_statement (block_line test); group = no_group; awaited = awaits_end } in
    let is = whole_ok tokens reading test found.1 closed in
    made_by (tokens ++ (open_brace ∷ [])) made next (Ok made) (unless_ok (nat_le 64 context.blocks) TooDeep (Ok made) next found.2) refl
    (record { test = is.form; tokens_are = ap (λ more. more ++ (open_brace ∷ [])) is.tokens_are; test_is = is.test_is })
operator_read context tokens reading next arrow_mark e closed none =
    let found = then_ok (whole_test reading) (λ test. Ok (record reading { test = test; group = no_group; awaited = awaits_value })) next e in
    let test = found.0 in
    let made : Reading = record reading { test = test; group = no_group; awaited = awaits_value } in
    let is = whole_ok tokens reading test found.1 closed in
    made_by (tokens ++ (arrow_mark ∷ [])) made next (Ok made) found.2 refl
    (is.form, ap (λ more. more ++ (arrow_mark ∷ [])) is.tokens_are, is.test_is)
operator_read context tokens reading next _ e closed none = absurd (cc)

-- ---- lists

-- One more token of a list.
abbrev list_grown : (tokens : List RuleToken) (of : ListRead) (more : List RuleToken) (token : RuleToken) (reading made : Reading) → InList tokens of more reading
    → made.around ≡ reading.around → made.group ≡ reading.group → made.spans ≡ reading.spans → InList (tokens ++ (token ∷ [])) of (more ++ (token ∷ [])) made
list_grown tokens of more token reading made it around group spans = record {
  head = it.head;
  ranges = it.ranges;
  list_is = it.list_is;
  spans_are = spans ∙ it.spans_are;
  begun = renamed (tokens ++ (token ∷ [])) ((head_tokens it.head ++ (ranges_tokens it.ranges ++ more)) ++ (token ∷ [])) (head_tokens it.head ++ (ranges_tokens it.ranges ++ (more ++ (token ∷ [])))) made
      (append_assoc (head_tokens it.head) (ranges_tokens it.ranges ++ more) (token ∷ [])
      ∙ ap (λ rest. head_tokens it.head ++ rest) (append_assoc (ranges_tokens it.ranges) more (token ∷ [])))
      (grown tokens (head_tokens it.head ++ (ranges_tokens it.ranges ++ more)) token reading made it.begun around group);
}

list_renamed : (tokens : List RuleToken) (of : ListRead) (more other : List RuleToken) (reading : Reading) → more ≡ other → InList tokens of more reading → InList tokens of other reading
list_renamed tokens of more other reading e it = subst (λ m. InList tokens of m reading) e it

-- A list begins after its head.
list_begins : (tokens unit : List RuleToken) (head : HeadForm) (of : ListRead) (reading : Reading) → of ≡ list_of_head head → unit ≡ head_tokens head → InOpen tokens unit reading → reading.spans ≡ []
    → InList tokens of [] reading
list_begins tokens unit head of reading is same begun none = record {
  head = head;
  ranges = [];
  list_is = is;
  spans_are = none;
  begun = renamed tokens unit (head_tokens head ++ []) reading (same ∙ sym (append-nil (head_tokens head))) begun;
}

low_read : (context : LineContext) (tokens : List RuleToken) (of : ListRead) (reading next : Reading) (token : RuleToken)
    → read_low context of reading token ≡ Ok next → InList tokens of [] reading → Explained (tokens ++ (token ∷ [])) next
unfolding read_low
low_read context tokens of reading next token e it =
    let found = then_ok (number_within (most_of_field context.side (field_of_list of)) token) (λ low. Ok (record reading { awaited = awaits_dots of low })) next e in
    let low = found.0 in
    let made : Reading = record reading { awaited = awaits_dots of low } in
    made_by (tokens ++ (token ∷ [])) made next (Ok made) found.2 refl
    (list_renamed (tokens ++ (token ∷ [])) of (token ∷ []) (number_word low ∷ []) made (ap (λ t. t ∷ []) (number_ok (most_of_field context.side (field_of_list of)) token low found.1))
    (list_grown tokens of [] token reading made it refl refl refl))

ranges_more : (ranges : List RangeForm) (range : RangeForm) → ranges_tokens ranges ++ (range_tokens range ++ (comma_mark ∷ [])) ≡ ranges_tokens (ranges ++ (range ∷ []))
ranges_more [] range = refl
ranges_more (first ∷ ranges) range =
    append_assoc (range_tokens first) (comma_mark ∷ ranges_tokens ranges) (range_tokens range ++ (comma_mark ∷ []))
    ∙ ap (λ rest. range_tokens first ++ (comma_mark ∷ rest)) (ranges_more ranges range)

spans_more : (ranges : List RangeForm) (range : RangeForm) → map range_span ranges ++ (range_span range ∷ []) ≡ map range_span (ranges ++ (range ∷ []))
spans_more [] range = refl
spans_more (first ∷ ranges) range = ap (λ rest. range_span first ∷ rest) (spans_more ranges range)

list_tokens_are : (ranges : List RangeForm) (last : RangeForm) → ranges_tokens ranges ++ range_tokens last ≡ list_tokens ranges last
list_tokens_are [] last = refl
list_tokens_are (first ∷ ranges) last =
    append_assoc (range_tokens first) (comma_mark ∷ ranges_tokens ranges) (range_tokens last)
    ∙ ap (λ rest. range_tokens first ++ (comma_mark ∷ rest)) (list_tokens_are ranges last)

spans_written_are : (ranges : List RangeForm) (last : RangeForm) → map range_span ranges ++ (range_span last ∷ []) ≡ spans_written ranges last
spans_written_are [] last = refl
spans_written_are (first ∷ ranges) last = ap (λ rest. range_span first ∷ rest) (spans_written_are ranges last)

-- A list ends with this range, and is a unit.
list_closes : (tokens : List RuleToken) (of : ListRead) (range : RangeForm) (reading : Reading) → InList tokens of (range_tokens range) reading
    → InClosed tokens (with_list of (range_span range) reading) × ((with_list of (range_span range) reading).spans ≡ [])
unfolding with_list
list_closes tokens of range reading it =
    let spans = reading.spans ++ (range_span range ∷ []) in
    let unit = list_unit it.head it.ranges range in
    let test = list_test of spans in
    let made : Reading = record reading { spans = []; group = group_with reading.group test; awaited = awaits_operator } in
    let same : spans ≡ spans_written it.ranges range = ap (λ xs. xs ++ (range_span range ∷ [])) it.spans_are ∙ spans_written_are it.ranges range in
    let means : list_test (list_of_head it.head) (spans_written it.ranges range) ≡ test = ap (list_test (list_of_head it.head)) (sym same) ∙ ap (λ l. list_test l spans) (sym it.list_is) in (
      unit_closes tokens unit test reading made
          (renamed tokens (head_tokens it.head ++ (ranges_tokens it.ranges ++ range_tokens range)) (unit_tokens unit) reading (ap (λ rest. head_tokens it.head ++ rest) (list_tokens_are it.ranges range)) it.begun)
          (λ denied. ap (negated_if denied) means) refl refl,
      refl,
    )

comma_read : (context : LineContext) (tokens : List RuleToken) (of : ListRead) (range : RangeForm) (reading next : Reading) (token : RuleToken)
    → read_comma context of (range_span range) reading token ≡ Ok next → InList tokens of (range_tokens range) reading → Explained (tokens ++ (token ∷ [])) next
unfolding read_comma
comma_read context tokens of range reading next comma_mark e it =
    let made : Reading = record reading { spans = reading.spans ++ (range_span range ∷ []); awaited = awaits_low of } in
    let grew = list_grown tokens of (range_tokens range) comma_mark reading reading it refl refl refl in
    made_by (tokens ++ (comma_mark ∷ [])) made next (Ok made) e refl
    (record {
      head = it.head;
      ranges = it.ranges ++ (range ∷ []);
      list_is = it.list_is;
      spans_are = ap (λ xs. xs ++ (range_span range ∷ [])) it.spans_are ∙ spans_more it.ranges range;
      begun =
          let same : head_tokens it.head ++ (ranges_tokens it.ranges ++ (range_tokens range ++ (comma_mark ∷ []))) ≡ head_tokens it.head ++ (ranges_tokens (it.ranges ++ (range ∷ [])) ++ []) =
          ap (λ rest. head_tokens it.head ++ rest) (ranges_more it.ranges range ∙ sym (append-nil (ranges_tokens (it.ranges ++ (range ∷ []))))) in
          let here = renamed (tokens ++ (comma_mark ∷ [])) _ _ reading same grew.begun in
          record { around = here.around; form = here.form; tokens_are = here.tokens_are; around_are = here.around_are; group_is = here.group_is };
    })
comma_read context tokens of range reading next token e it =
    let closed = list_closes tokens of range reading it in
    operator_read context tokens (with_list of (range_span range) reading) next token e closed.0 closed.1

dots_read : (context : LineContext) (tokens : List RuleToken) (of : ListRead) (low : ℕ) (reading next : Reading) (token : RuleToken)
    → reading.awaited ≡ awaits_dots of low → read_dots context of low reading token ≡ Ok next → InList tokens of (number_word low ∷ []) reading → Explained (tokens ++ (token ∷ [])) next
unfolding read_dots with_range
dots_read context tokens of low reading next dots_mark waits e it =
    let made : Reading = record reading { awaited = awaits_high of low } in
    made_by (tokens ++ (dots_mark ∷ [])) made next (Ok made) e refl (list_grown tokens of (number_word low ∷ []) dots_mark reading made it refl refl refl)
dots_read context tokens of low reading next token waits e it =
    let made : Reading = record reading { comparisons = reading.comparisons + 1; awaited = reading.awaited } in
    let found = then_ok (if nat_le 4096 reading.comparisons then Err TooLong else Ok made) (λ after. read_comma context of (range_of_one low) after token) next e in
    let is : made ≡ found.0 = ok_is made found.0 (Ok made) refl (unless_ok (nat_le 4096 reading.comparisons) TooLong (Ok made) found.0 found.1) in
    comma_read context tokens of (record { low = low; high = None }) found.0 next token found.2
    (subst (InList tokens of (number_word low ∷ [])) is
    (record { head = it.head; ranges = it.ranges; list_is = it.list_is; spans_are = it.spans_are; begun = in_moved tokens _ reading made it.begun refl refl }))

high_read : (context : LineContext) (tokens : List RuleToken) (of : ListRead) (low : ℕ) (reading next : Reading) (token : RuleToken)
    → read_high context of low reading token ≡ Ok next → InList tokens of (number_word low ∷ dots_mark ∷ []) reading → Explained (tokens ++ (token ∷ [])) next
unfolding read_high with_range
high_read context tokens of low reading next token e it =
    let most = most_of_field context.side (field_of_list of) in
    let found = then_ok (number_within most token) (λ high. if nat_lt high low then Err TooLarge else with_range reading (awaits_comma of (record { low = low; high = high }))) next e in
    let high = found.0 in
    let made : Reading = record reading { comparisons = reading.comparisons + 1; awaited = awaits_comma of (record { low = low; high = high }) } in
    let counted : with_range reading (awaits_comma of (record { low = low; high = high })) ≡ Ok next = unless_ok (nat_lt high low) TooLarge _ next found.2 in
    made_by (tokens ++ (token ∷ [])) made next (Ok made) (unless_ok (nat_le 4096 reading.comparisons) TooLong (Ok made) next counted) refl (
      record { low = low; high = Some high },
      refl,
      list_renamed (tokens ++ (token ∷ [])) of (number_word low ∷ dots_mark ∷ token ∷ []) (number_word low ∷ dots_mark ∷ number_word high ∷ []) made
          (ap (λ t. number_word low ∷ dots_mark ∷ t ∷ []) (number_ok most token high found.1))
          (list_grown tokens of (number_word low ∷ dots_mark ∷ []) token reading made it refl refl refl),
    )

-- ---- comparisons

order_read : (tokens : List RuleToken) (subject : SubjectRead) (order : OrderForm) (reading next : Reading)
    → step_to (record reading { awaited = awaits_constant subject (order_sign order) }) ≡ Ok next → InOpen tokens (subject_tokens subject) reading → reading.spans ≡ []
    → Explained (tokens ++ (sign_mark (order_sign order) ∷ [])) next
order_read tokens subject order reading next e begun none =
    let made : Reading = record reading { awaited = awaits_constant subject (order_sign order) } in
    let token = sign_mark (order_sign order) in
    made_by (tokens ++ (token ∷ [])) made next (step_to made) e refl (order, refl, grown tokens (subject_tokens subject) token reading made begun refl refl, none)

sign_read : (context : LineContext) (tokens : List RuleToken) (subject : SubjectRead) (reading next : Reading) (token : RuleToken)
    → read_sign context subject reading token ≡ Ok next → InOpen tokens (subject_tokens subject) reading → reading.spans ≡ [] → Explained (tokens ++ (token ∷ [])) next
unfolding read_sign
sign_read context tokens subject reading next (sign_mark equal_sign) e begun none =
    let made : Reading = record reading { awaited = awaits_low (field_list subject) } in
    made_by (tokens ++ (sign_mark equal_sign ∷ [])) made next (Ok made) e refl
    (list_begins (tokens ++ (sign_mark equal_sign ∷ [])) _ (equal_head subject) (field_list subject) made refl refl (grown tokens (subject_tokens subject) (sign_mark equal_sign) reading made begun refl refl) none)
sign_read context tokens subject reading next (sign_mark unequal_sign) e begun none =
    let made : Reading = record reading { awaited = awaits_low (denied_list subject) } in
    made_by (tokens ++ (sign_mark unequal_sign ∷ [])) made next (Ok made) e refl
    (list_begins (tokens ++ (sign_mark unequal_sign ∷ [])) _ (unequal_head subject) (denied_list subject) made refl refl (grown tokens (subject_tokens subject) (sign_mark unequal_sign) reading made begun refl refl) none)
sign_read context tokens subject reading next (sign_mark less_sign) e begun none = order_read tokens subject less_order reading next e begun none
sign_read context tokens subject reading next (sign_mark at_most_sign) e begun none = order_read tokens subject at_most_order reading next e begun none
sign_read context tokens subject reading next (sign_mark greater_sign) e begun none = order_read tokens subject greater_order reading next e begun none
sign_read context tokens subject reading next (sign_mark at_least_sign) e begun none = order_read tokens subject at_least_order reading next e begun none
sign_read context tokens subject reading next token e begun none =
    low_read context tokens (field_list subject) reading next token e (list_begins tokens (subject_tokens subject) (bare_head subject) (field_list subject) reading refl refl begun none)

relation_read : (context : LineContext) (tokens : List RuleToken) (subject : SubjectRead) (reading next : Reading) (token : RuleToken)
    → read_relation context subject reading token ≡ Ok next → subject.mask ≡ None → InOpen tokens (subject_tokens subject) reading → reading.spans ≡ [] → Explained (tokens ++ (token ∷ [])) next
unfolding read_relation
relation_read context tokens subject reading next mask_mark e bare begun none =
    let made : Reading = record reading { awaited = awaits_mask subject } in
    made_by (tokens ++ (mask_mark ∷ [])) made next (Ok made) e refl (bare, grown tokens (subject_tokens subject) mask_mark reading made begun refl refl, none)
relation_read context tokens subject reading next token e bare begun none = sign_read context tokens subject reading next token e begun none

mask_read : (context : LineContext) (tokens : List RuleToken) (subject : SubjectRead) (reading next : Reading) (token : RuleToken)
    → read_mask context subject reading token ≡ Ok next → subject.mask ≡ None → InOpen tokens (subject_tokens subject ++ (mask_mark ∷ [])) reading → reading.spans ≡ []
    → Explained (tokens ++ (token ∷ [])) next
unfolding read_mask
mask_read context tokens subject reading next token e bare begun none =
    let most = most_of_field context.side subject.field in
    let found = then_ok (number_within most token) (λ mask. Ok (record reading { awaited = awaits_sign (record { field = subject.field; mask = Some mask }) })) next e in
    let mask = found.0 in
    let masked : SubjectRead = record { field = subject.field; mask = Some mask } in
    let made : Reading = record reading { awaited = awaits_sign masked } in
    let without : subject_tokens subject ≡ field_tokens subject.field = ap (λ m. field_tokens subject.field ++ mask_tokens m) bare ∙ append-nil (field_tokens subject.field) in
    let same : (subject_tokens subject ++ (mask_mark ∷ [])) ++ (token ∷ []) ≡ subject_tokens masked =
    ap (λ xs. (xs ++ (mask_mark ∷ [])) ++ (token ∷ [])) without ∙ append_assoc (field_tokens subject.field) (mask_mark ∷ []) (token ∷ [])
    ∙ ap (λ t. field_tokens subject.field ++ (mask_mark ∷ t ∷ [])) (number_ok most token mask found.1) in
    made_by (tokens ++ (token ∷ [])) made next (Ok made) found.2 refl
    (renamed (tokens ++ (token ∷ [])) _ (subject_tokens masked) made same (grown tokens (subject_tokens subject ++ (mask_mark ∷ [])) token reading made begun refl refl), none)

constant_read : (context : LineContext) (tokens : List RuleToken) (subject : SubjectRead) (sign : Sign) (order : OrderForm) (reading next : Reading) (token : RuleToken)
    → read_constant context subject sign reading token ≡ Ok next → sign ≡ order_sign order → InOpen tokens (subject_tokens subject ++ (sign_mark sign ∷ [])) reading → reading.spans ≡ []
    → Explained (tokens ++ (token ∷ [])) next
unfolding read_constant
constant_read context tokens subject sign order reading next token e is begun none =
    let most = most_of_field context.side subject.field in
    let found = then_ok (number_within most token) (λ k. with_unit reading (comparing subject.field subject.mask (compared sign k))) next e in
    let k = found.0 in
    let unit = order_unit subject order k in
    let same : (subject_tokens subject ++ (sign_mark sign ∷ [])) ++ (token ∷ []) ≡ unit_tokens unit =
    append_assoc (subject_tokens subject) (sign_mark sign ∷ []) (token ∷ [])
    ∙ ap (λ s. subject_tokens subject ++ (sign_mark s ∷ token ∷ [])) is ∙ ap (λ t. subject_tokens subject ++ (sign_mark (order_sign order) ∷ t ∷ [])) (number_ok most token k found.1) in
    unit_read (tokens ++ (token ∷ [])) unit (comparing subject.field subject.mask (compared sign k)) reading next found.2
    (renamed (tokens ++ (token ∷ [])) _ (unit_tokens unit) reading same (grown tokens (subject_tokens subject ++ (sign_mark sign ∷ [])) token reading reading begun refl refl))
    (λ denied. ap (λ s. negated_if denied (comparing subject.field subject.mask (compared s k))) (sym is)) none

offset_read : (tokens : List RuleToken) (size : Size) (reading next : Reading) (token : RuleToken)
    → read_offset size reading token ≡ Ok next → InOpen tokens (size_word size ∷ []) reading → reading.spans ≡ [] → Explained (tokens ++ (token ∷ [])) next
unfolding read_offset
offset_read tokens size reading next token e begun none =
    let found = then_ok (octets_at_token size token) (λ field. Ok (record reading { awaited = awaits_relation (subject_of field) })) next e in
    let field = found.0 in
    let made : Reading = record reading { awaited = awaits_relation (subject_of field) } in
    let is = octets_ok size token field found.1 in
    let same : size_word size ∷ token ∷ [] ≡ subject_tokens (subject_of field) =
    ap (λ t. size_word size ∷ t ∷ []) is.1 ∙ ap (λ f. field_tokens f ++ []) is.2 in
    made_by (tokens ++ (token ∷ [])) made next (Ok made) found.2 refl
    (refl, renamed (tokens ++ (token ∷ [])) _ (subject_tokens (subject_of field)) made same (grown tokens (size_word size ∷ []) token reading made begun refl refl), none)

slash_read : (tokens : List RuleToken) (path : ℕ) (reading next : Reading) (token : RuleToken)
    → read_slash path reading token ≡ Ok next → InOpen tokens (number_word path ∷ []) reading → reading.spans ≡ [] → Explained (tokens ++ (token ∷ [])) next
unfolding read_slash
slash_read tokens path reading next slash_mark e begun none =
    let made : Reading = record reading { awaited = awaits_channel path } in
    made_by (tokens ++ (slash_mark ∷ [])) made next (Ok made) e refl (grown tokens (number_word path ∷ []) slash_mark reading made begun refl refl, none)
slash_read tokens path reading next _ e begun none = absurd (cc)

channel_read : (context : LineContext) (tokens : List RuleToken) (path : ℕ) (reading next : Reading) (token : RuleToken)
    → read_channel context path reading token ≡ Ok next → InOpen tokens (number_word path ∷ slash_mark ∷ []) reading → reading.spans ≡ [] → Explained (tokens ++ (token ∷ [])) next
unfolding read_channel
channel_read context tokens path reading next star_mark e begun none =
    unit_read (tokens ++ (star_mark ∷ [])) (path_unit path) (path_test path) reading next e (grown tokens (number_word path ∷ slash_mark ∷ []) star_mark reading reading begun refl refl) (λ denied. refl) none
channel_read context tokens path reading next token e begun none =
    low_read context tokens (path_list path) reading next token e (list_begins tokens (number_word path ∷ slash_mark ∷ []) (path_head path) (path_list path) reading refl refl begun none)

-- ---- values, and the other statements

value_ok : (tokens : List RuleToken) (reading next : Reading) (token : RuleToken) → read_value reading token ≡ Ok next
    → (test : TestForm) × (tokens ≡ test_tokens test ++ (arrow_mark ∷ [])) × (reading.test ≡ test_written test) → Explained (tokens ++ (token ∷ [])) next
unfolding read_value
value_ok tokens reading next token e (test, same, is) =
    let found = then_ok (value_read token) (λ value. Ok (record reading { test = any_cell; statement = line_statement (rule_line reading.test value); awaited = awaits_end })) next e in
    let made : Reading = record reading { test = any_cell; statement = line_statement (rule_line reading.test found.0); awaited = awaits_end } in
    made_by (tokens ++ (token ∷ [])) made next (Ok made) found.2 refl (record {
      test = test;
      token = token;
      tokens_are = ap (λ more. more ++ (token ∷ [])) same ∙ append_assoc (test_tokens test) (arrow_mark ∷ []) (token ∷ []);
      test_is = is;
      value_is = found.1;
    })

arrow_ok : (tokens : List RuleToken) (reading next : Reading) (token : RuleToken) → read_arrow reading token ≡ Ok next → Explained (tokens ++ (token ∷ [])) next
unfolding read_arrow
arrow_ok tokens reading next arrow_mark e =
    let made : Reading = record reading { awaited = awaits_only_value } in made_by (tokens ++ (arrow_mark ∷ [])) made next (Ok made) e refl tt
arrow_ok tokens reading next _ e = absurd (cc)

rest_ok : (tokens : List RuleToken) (reading next : Reading) (token : RuleToken) → read_only_value reading token ≡ Ok next → Explained (tokens ++ (token ∷ [])) next
unfolding read_only_value
rest_ok tokens reading next token e =
    let found = then_ok (value_read token) (λ value. Ok (record reading { statement = value_statement value; awaited = awaits_end })) next e in
    let made : Reading = record reading { statement = value_statement found.0; awaited = awaits_end } in
    made_by (tokens ++ (token ∷ [])) made next (Ok made) found.2 refl tt

side_ok : (tokens : List RuleToken) (reading next : Reading) (token : RuleToken) → read_side reading token ≡ Ok next → Explained (tokens ++ (token ∷ [])) next
unfolding read_side
side_ok tokens reading next uni_word e =
    let made : Reading = record reading { statement = side_statement Uni; awaited = awaits_end } in made_by (tokens ++ (uni_word ∷ [])) made next (Ok made) e refl tt
side_ok tokens reading next nni_word e =
    let made : Reading = record reading { statement = side_statement Nni; awaited = awaits_end } in made_by (tokens ++ (nni_word ∷ [])) made next (Ok made) e refl tt
side_ok tokens reading next _ e = absurd (cc)

no_tokens_open : (tokens : List RuleToken) (reading : Reading) → tokens ≡ [] → reading ≡ nothing_read → InOpen tokens [] reading
no_tokens_open tokens reading none is = record {
  around = [];
  form = no_form;
  tokens_are = none;
  around_are = subst (λ (r : Reading). AreOpen [] r.around) (sym is) tt;
  group_is = subst (λ (r : Reading). IsOpen no_form r.group) (sym is) (record { alternatives = refl; last_alternative = refl; negated = refl });
}

start_read : (context : LineContext) (column : ℕ) (tokens : List RuleToken) (reading next : Reading) (token : RuleToken)
    → read_start context column reading token ≡ Ok next → tokens ≡ [] → reading ≡ nothing_read → Explained (tokens ++ (token ∷ [])) next
unfolding read_start
start_read context column tokens reading next otherwise_word e none is =
    let made : Reading = record reading { awaited = awaits_arrow } in
    made_by (tokens ++ (otherwise_word ∷ [])) made next (Ok made) (unless_ok (nat_lt 0 context.blocks) BadLine (Ok made) next e) refl tt
start_read context column tokens reading next side_word e none is =
    let made : Reading = record reading { awaited = awaits_side } in
    made_by (tokens ++ (side_word ∷ [])) made next (Ok made) (unless_ok context.begun BadLine (Ok made) next e) refl tt
start_read context column tokens reading next close_brace e none is = by (nat_lt 0 context.blocks) e
  where
    by : (inside : Bool) → (if inside then Ok (record reading { statement = line_statement end_line; awaited = awaits_end }) else Err Unbalanced) ≡ Ok next
        → Explained (tokens ++ (close_brace ∷ [])) next
    by true f =
        let made : Reading = record reading { statement = line_statement end_line; awaited = awaits_end } in made_by (tokens ++ (close_brace ∷ [])) made next (Ok made) f refl tt
    by false f = absurd (cc)
start_read context column tokens reading next token e none is =
    unit_begins context column tokens reading next token e (no_tokens_open tokens reading none is) (ap (λ (r : Reading). r.spans) is)

-- ---- a line

awaited_read : (awaited : Awaited) (context : LineContext) (column : ℕ) (tokens : List RuleToken) (reading next : Reading) (token : RuleToken)
    → reading.awaited ≡ awaited → read_awaited awaited context column reading token ≡ Ok next → ExplainedAt awaited tokens reading → Explained (tokens ++ (token ∷ [])) next
unfolding read_awaited
awaited_read awaits_start context column tokens reading next token waits e h = start_read context column tokens reading next token e h.0 h.1
awaited_read awaits_unit context column tokens reading next token waits e h = unit_begins context column tokens reading next token e h.0 h.1
awaited_read awaits_operator context column tokens reading next token waits e h = operator_read context tokens reading next token e h.0 h.1
awaited_read (awaits_offset size) context column tokens reading next token waits e h = offset_read tokens size reading next token e h.0 h.1
awaited_read (awaits_relation subject) context column tokens reading next token waits e h = relation_read context tokens subject reading next token e h.0 h.1 h.2
awaited_read (awaits_mask subject) context column tokens reading next token waits e h = mask_read context tokens subject reading next token e h.0 h.1 h.2
awaited_read (awaits_sign subject) context column tokens reading next token waits e h = sign_read context tokens subject reading next token e h.0 h.1
awaited_read (awaits_constant subject sign) context column tokens reading next token waits e h = constant_read context tokens subject sign h.0 reading next token e h.1 h.2 h.3
awaited_read (awaits_dots of low) context column tokens reading next token waits e h = dots_read context tokens of low reading next token waits e h
awaited_read (awaits_high of low) context column tokens reading next token waits e h = high_read context tokens of low reading next token e h
awaited_read (awaits_comma of span) context column tokens reading next token waits e h =
    comma_read context tokens of h.0 reading next token (ap (λ s. read_comma context of s reading token) (sym h.1) ∙ e) h.2
awaited_read (awaits_low of) context column tokens reading next token waits e h = low_read context tokens of reading next token e h
awaited_read (awaits_slash path) context column tokens reading next token waits e h = slash_read tokens path reading next token e h.0 h.1
awaited_read (awaits_channel path) context column tokens reading next token waits e h = channel_read context tokens path reading next token e h.0 h.1
awaited_read awaits_arrow context column tokens reading next token waits e h = arrow_ok tokens reading next token e
awaited_read awaits_value context column tokens reading next token waits e h = value_ok tokens reading next token e h
awaited_read awaits_only_value context column tokens reading next token waits e h = rest_ok tokens reading next token e
awaited_read awaits_side context column tokens reading next token waits e h = side_ok tokens reading next token e
awaited_read awaits_end context column tokens reading next token waits e h = absurd (cc)

token_ok : (context : LineContext) (column : ℕ) (tokens : List RuleToken) (reading next : Reading) (token : RuleToken)
    → read_token context column reading token ≡ Ok next → Explained tokens reading → Explained (tokens ++ (token ∷ [])) next
token_ok context column tokens reading next token e h =
    awaited_read reading.awaited context column tokens reading next token refl
    (unless_ok (lacks_room token) TooLong _ next (unless_ok (may_be_name token) UnknownName _ next e)) h

end_ok : (awaited : Awaited) (tokens : List RuleToken) (reading : Reading) (statement : StatementRead) → statement_at_end awaited reading.statement ≡ Ok statement
    → ExplainedAt awaited tokens reading → StatementWritten tokens statement
end_ok awaits_start tokens reading statement e h =
    let is : blank_statement ≡ statement = ok_is blank_statement statement (Ok reading.statement) (ap (λ (r : Reading). Ok r.statement) h.1) e in
    subst (StatementWritten tokens) is tt
end_ok awaits_end tokens reading statement e h =
    let is : reading.statement ≡ statement = ok_is reading.statement statement (Ok reading.statement) refl e in subst (StatementWritten tokens) is h
end_ok _ tokens reading statement e h = absurd (cc)

read_ok : {A E F B : Type 0} (found : Result A E) (fault : E → F) (next : A → Result B F) (result : B) → read_then found fault next ≡ Ok result
    → (it : A) × (found ≡ Ok it) × (next it ≡ Ok result)
read_ok (Ok it) fault next result e = (it, refl, e)
read_ok (Err error) fault next result e = absurd (cc)

line_ok : (context : LineContext) (reading : Reading) (column : ℕ) (tokens : List RuleToken) (found : List RuleFound) (statement : StatementRead)
    → statement_from context reading column found ≡ Ok statement → Explained tokens reading → StatementWritten (tokens ++ map (λ it. it.token) found) statement
unfolding statement_from
line_ok context reading column tokens [] statement e h =
    let ended = read_ok (statement_at_end reading.awaited reading.statement) (λ kind. fault_in_line column kind) (λ it. Ok it) statement e in
    let is : ended.0 ≡ statement = same_statement ended.0 statement (Ok ended.0) refl ended.2 in
    subst (StatementWritten (tokens ++ [])) is
    (subst (λ ts. StatementWritten ts ended.0) (sym (append-nil tokens)) (end_ok reading.awaited tokens reading ended.0 ended.1 h))
line_ok context reading column tokens (first ∷ rest) statement e h =
    let step = read_ok (read_token context first.column reading first.token) (λ kind. fault_in_line (fault_column reading kind first.column) kind)
    (λ next. statement_from context next first.after rest) statement e in
    subst (λ ts. StatementWritten ts statement) (append_assoc tokens (first.token ∷ []) (map (λ it. it.token) rest))
    (line_ok context step.0 first.after (tokens ++ (first.token ∷ [])) rest statement step.2 (token_ok context first.column tokens reading step.0 first.token step.1 h))

-- A rule.
pub rule_is_written : (context : LineContext) (found : List RuleFound) (read : TestRead) (value : ℕ)
    → statement_from context nothing_read 1 found ≡ Ok (line_statement (rule_line read value)) → IsRuleWritten (map (λ it. it.token) found) read value
rule_is_written context found read value e = line_ok context nothing_read 1 [] found (line_statement (rule_line read value)) e (refl, refl)

-- The head of a block.
pub head_is_written : (context : LineContext) (found : List RuleFound) (read : TestRead)
    → statement_from context nothing_read 1 found ≡ Ok (line_statement (block_line read)) → IsHeadWritten (map (λ it. it.token) found) read
head_is_written context found read e = line_ok context nothing_read 1 [] found (line_statement (block_line read)) e (refl, refl)
