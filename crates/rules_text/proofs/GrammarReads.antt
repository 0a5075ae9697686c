-- The reader of lines reads each test of the grammar as what it means.
use Rattle.std.proofs.Common.{◌≡◌, ℕ, suc, ◌+◌, ◌≤◌, ◌<◌, Bool, false, not, nat_lt, if◌then◌else◌, List, [], ◌∷◌, ◌++◌, length, map, Option, Some, None, Ok, refl, sym, ◌∙◌, subst, arith}
use Rattle.std.proofs.lemmas.Bool.{lt-leb}
use Rattle.rules_text.specs.LineGrammar.{Awaited, GroupRead, LineContext, Reading, StatementRead, awaits_start, awaits_unit, awaits_operator, awaits_constant, awaits_slash, awaits_channel, awaits_value, awaits_end, and_with, group_after_or, group_test, group_with, no_group, nothing_read, path_test, read_awaited, read_operator, read_token, read_value, statement_at_end, line_statement, lacks_room, may_be_name, whole_test, with_block, with_head}
use Rattle.rules_text.specs.RuleGrammar.{head_tokens, list_of_head, order_sign, PartFits, PartForm, TestFits, TestForm, UnitFits, UnitForm, word_unit, order_unit, path_unit, list_unit, not_unit, parenthesis_unit, one_unit, and_unit, one_part, or_part, list_tokens, part_count, units_tokens, part_written, spans_written, subject_tokens, test_count, test_tokens, test_written, unit_count, unit_tokens, unit_written}
use Rattle.rules_text.specs.RulesRead.{TestRead, any_cell, comparing, compared, block_line, rule_line}
use Rattle.rules_text.specs.RuleTokens.{RuleFound, RuleToken, test_word, name_word, no_room, not_word, and_word, or_word, number_word, arrow_mark, open_brace, open_parenthesis, close_parenthesis, sign_mark}
use Rattle.rules_text.specs.TextOfRules.{statement_from}
use Rattle.rules_text.proofs.ReadingSteps.{statement_end, statement_more}
use Rattle.rules_text.specs.Subjects.{value_read}
use Rattle.rules_text.proofs.GrammarHeads.{at_state, Reads, reads_append, Ended, Begins, begins_unit, begins_start, with_unit-ok, word_step, not_step, open_step, close_step, subject_reads, order_step, constant_step, path_step, slash_step, star_step, list_reads, head_reads, after_unit}

after_moved : (context : LineContext) (end reading : Reading) (group : GroupRead) (outermost count total : ℕ) → count ≡ total
    → Ended context end (after_unit reading group outermost count) → Ended context end (after_unit reading group outermost total)
after_moved context end reading group outermost count total equal h = subst (λ (n : ℕ). Ended context end (after_unit reading group outermost n)) equal h

-- The group after a test.
abbrev group_written : TestForm → GroupRead
group_written (one_part part) = record { alternatives = None; last_alternative = Some (part_written part); negated = false }
group_written (or_part test part) = record { alternatives = Some (test_written test); last_alternative = Some (part_written part); negated = false }

written_test : (test : TestForm) → group_test (group_written test) ≡ Some (test_written test)
written_test (one_part part) = refl
written_test (or_part test part) = refl

written_or : (test : TestForm) → group_after_or (group_written test) ≡ record { alternatives = Some (test_written test); last_alternative = None; negated = false }
written_or (one_part part) = refl
written_or (or_part test part) = refl

and_step : (context : LineContext) (column : ℕ) (reading : Reading) (group : GroupRead) (outermost comparisons : ℕ)
    → read_token context column (after_unit reading group outermost comparisons) and_word ≡ Ok (at_state (record reading { outermost = outermost }) awaits_unit group [] comparisons)
unfolding read_awaited read_operator
and_step context column reading group outermost comparisons = refl

or_step : (context : LineContext) (column : ℕ) (reading : Reading) (group next : GroupRead) (outermost comparisons : ℕ) → group_after_or group ≡ next
    → read_token context column (after_unit reading group outermost comparisons) or_word ≡ Ok (at_state (record reading { outermost = outermost }) awaits_unit next [] comparisons)
unfolding read_awaited read_operator
or_step context column reading group next outermost comparisons e = rw e refl

mutual
  unit_reads : (context : LineContext) (unit : UnitForm) (begin : Awaited) (reading : Reading) (alternatives last_alternative : Option TestRead) (negated : Bool) (comparisons total : ℕ) (P : Reading → Type 0)
      → Begins context begin → UnitFits context (context.blocks + length reading.around) unit → total ≡ comparisons + unit_count unit → total ≤ 4096
      → ((last : ℕ) (end : Reading) → Ended context end (after_unit reading (record { alternatives = alternatives; last_alternative = Some (and_with last_alternative (unit_written negated unit)); negated = false }) last total) → P end)
      → Reads context (at_state reading begin (record { alternatives = alternatives; last_alternative = last_alternative; negated = negated }) [] comparisons) (unit_tokens unit) P
  unit_reads context (word_unit test) begin reading alternatives last_alternative negated comparisons total P begins fits count bound h =
      let group : GroupRead = record { alternatives = alternatives; last_alternative = last_alternative; negated = negated } in
      let room : comparisons < 4096 = omega arith in
      λ column. (
        at_state reading awaits_operator (group_with group test) [] (comparisons + 1),
        begins column (at_state reading begin group [] comparisons) (test_word test) refl ∙ word_step context column (at_state reading begin group [] comparisons) test
            ∙ with_unit-ok (at_state reading begin group [] comparisons) test room,
        h reading.outermost _ (after_moved context _ reading (group_with group test) reading.outermost (comparisons + 1) total (sym count) (λ column token is. refl)),
      )
  unit_reads context (order_unit subject order k) begin reading alternatives last_alternative negated comparisons total P begins fits count bound h =
      let group : GroupRead = record { alternatives = alternatives; last_alternative = last_alternative; negated = negated } in
      let room : comparisons < 4096 = omega arith in
      let sign = order_sign order in
      let done = group_with group (comparing subject.field subject.mask (compared sign k)) in
      reads_append context (subject_tokens subject) (sign_mark sign ∷ number_word k ∷ []) (at_state reading begin group [] comparisons) P
      (subject_reads context begin reading group comparisons (λ next. Reads context next (sign_mark sign ∷ number_word k ∷ []) P) subject begins fits.0 (λ next compares.
      λ column. (
        at_state reading (awaits_constant subject sign) group [] comparisons,
        compares column (sign_mark sign) refl ∙ order_step context column reading group comparisons subject order,
        λ column. (
          at_state reading awaits_operator done [] (comparisons + 1),
          constant_step context column reading group comparisons subject sign k fits.1 room,
          h reading.outermost _ (after_moved context _ reading done reading.outermost (comparisons + 1) total (sym count) (λ column token is. refl)),
        ),
      )))
  unit_reads context (list_unit head ranges last) begin reading alternatives last_alternative negated comparisons total P begins fits count bound h =
      let group : GroupRead = record { alternatives = alternatives; last_alternative = last_alternative; negated = negated } in
      reads_append context (head_tokens head) (list_tokens ranges last) (at_state reading begin group [] comparisons) P
      (head_reads context begin reading group comparisons (λ next. Reads context next (list_tokens ranges last) P) head begins fits.0 (λ next lows.
      list_reads context reading group (list_of_head head) P ranges last next [] (spans_written ranges last) comparisons total lows fits.1 refl count bound
      (λ end ended. h reading.outermost end ended)))
  unit_reads context (path_unit path) begin reading alternatives last_alternative negated comparisons total P begins fits count bound h =
      let group : GroupRead = record { alternatives = alternatives; last_alternative = last_alternative; negated = negated } in
      let room : comparisons < 4096 = omega arith in
      let done = group_with group (path_test path) in
      λ column. (
        at_state reading (awaits_slash path) group [] comparisons,
        begins column (at_state reading begin group [] comparisons) (number_word path) refl ∙ path_step context column reading begin group comparisons path fits,
        λ column. (
          at_state reading (awaits_channel path) group [] comparisons,
          slash_step context column reading group comparisons path,
          λ column. (
            at_state reading awaits_operator done [] (comparisons + 1),
            star_step context column reading group comparisons path room,
            h reading.outermost _ (after_moved context _ reading done reading.outermost (comparisons + 1) total (sym count) (λ column token is. refl)),
          ),
        ),
      )
  unit_reads context (not_unit unit) begin reading alternatives last_alternative negated comparisons total P begins fits count bound h =
      λ column. (
        at_state reading awaits_unit (record { alternatives = alternatives; last_alternative = last_alternative; negated = not negated }) [] comparisons,
        begins column (at_state reading begin (record { alternatives = alternatives; last_alternative = last_alternative; negated = negated }) [] comparisons) not_word refl ∙ not_step context column reading begin alternatives last_alternative negated comparisons,
        unit_reads context unit awaits_unit reading alternatives last_alternative (not negated) comparisons total P (begins_unit context) fits count bound h,
      )
  unit_reads context (parenthesis_unit test) begin reading alternatives last_alternative negated comparisons total P begins fits count bound h =
      let group : GroupRead = record { alternatives = alternatives; last_alternative = last_alternative; negated = negated } in
      let deeper : context.blocks + length reading.around + 1 ≡ context.blocks + suc (length reading.around) = omega arith in
      λ column. (
        at_state (record reading { around = group ∷ reading.around; outermost = (if nat_lt 0 (length reading.around) then reading.outermost else column) }) awaits_unit no_group [] comparisons,
        begins column (at_state reading begin group [] comparisons) open_parenthesis refl ∙ open_step context column reading begin group comparisons fits.0,
        reads_append context (test_tokens test) (close_parenthesis ∷ []) _ P
            (test_reads context test awaits_unit (record reading { around = group ∷ reading.around; outermost = (if nat_lt 0 (length reading.around) then reading.outermost else column) }) comparisons total
            (λ next. Reads context next (close_parenthesis ∷ []) P) (begins_unit context) (subst (λ (k : ℕ). TestFits context k test) deeper fits.1) count bound (λ last end ended.
            λ column. (
              after_unit reading (group_with group (test_written test)) last total,
              ended column close_parenthesis refl ∙ close_step context column (record reading { outermost = last }) group (group_written test) reading.around (test_written test) total (written_test test),
              h last _ (λ column token is. refl),
            ))),
      )

  part_reads : (context : LineContext) (part : PartForm) (begin : Awaited) (reading : Reading) (alternatives : Option TestRead) (comparisons total : ℕ) (P : Reading → Type 0)
      → Begins context begin → PartFits context (context.blocks + length reading.around) part → total ≡ comparisons + part_count part → total ≤ 4096
      → ((last : ℕ) (end : Reading) → Ended context end (after_unit reading (record { alternatives = alternatives; last_alternative = Some (part_written part); negated = false }) last total) → P end)
      → Reads context (at_state reading begin (record { alternatives = alternatives; last_alternative = None; negated = false }) [] comparisons) (units_tokens part) P
  part_reads context (one_unit unit) begin reading alternatives comparisons total P begins fits count bound h =
      unit_reads context unit begin reading alternatives None false comparisons total P begins fits count bound h
  part_reads context (and_unit part unit) begin reading alternatives comparisons total P begins fits count bound h =
      let equal : total ≡ comparisons + part_count part + unit_count unit = omega arith in
      let below : comparisons + part_count part ≤ 4096 = omega arith in
      reads_append context (units_tokens part) (and_word ∷ unit_tokens unit) _ P
      (part_reads context part begin reading alternatives comparisons (comparisons + part_count part) (λ next. Reads context next (and_word ∷ unit_tokens unit) P) begins fits.0 refl below (λ last end ended.
      λ column. (
        at_state (record reading { outermost = last }) awaits_unit (record { alternatives = alternatives; last_alternative = Some (part_written part); negated = false }) [] (comparisons + part_count part),
        ended column and_word refl ∙ and_step context column reading (record { alternatives = alternatives; last_alternative = Some (part_written part); negated = false }) last (comparisons + part_count part),
        unit_reads context unit awaits_unit (record reading { outermost = last }) alternatives (Some (part_written part)) false (comparisons + part_count part) total P (begins_unit context) fits.1 equal bound h,
      )))

  test_reads : (context : LineContext) (test : TestForm) (begin : Awaited) (reading : Reading) (comparisons total : ℕ) (P : Reading → Type 0)
      → Begins context begin → TestFits context (context.blocks + length reading.around) test → total ≡ comparisons + test_count test → total ≤ 4096
      → ((last : ℕ) (end : Reading) → Ended context end (after_unit reading (group_written test) last total) → P end)
      → Reads context (at_state reading begin no_group [] comparisons) (test_tokens test) P
  test_reads context (one_part part) begin reading comparisons total P begins fits count bound h =
      part_reads context part begin reading None comparisons total P begins fits count bound h
  test_reads context (or_part test part) begin reading comparisons total P begins fits count bound h =
      let equal : total ≡ comparisons + test_count test + part_count part = omega arith in
      let below : comparisons + test_count test ≤ 4096 = omega arith in
      reads_append context (test_tokens test) (or_word ∷ units_tokens part) _ P
      (test_reads context test begin reading comparisons (comparisons + test_count test) (λ next. Reads context next (or_word ∷ units_tokens part) P) begins fits.0 refl below (λ last end ended.
      λ column. (
        at_state (record reading { outermost = last }) awaits_unit (record { alternatives = Some (test_written test); last_alternative = None; negated = false }) [] (comparisons + test_count test),
        ended column or_word refl ∙ or_step context column reading (group_written test) (record { alternatives = Some (test_written test); last_alternative = None; negated = false }) last (comparisons + test_count test) (written_or test),
        part_reads context part awaits_unit (record reading { outermost = last }) (Some (test_written test)) (comparisons + test_count test) total P (begins_unit context) fits.1 equal bound h,
      )))

arrow_step : (context : LineContext) (column : ℕ) (group : GroupRead) (outermost comparisons : ℕ) (test : TestRead) → group_test group ≡ Some test
    → read_token context column (after_unit nothing_read group outermost comparisons) arrow_mark
    ≡ Ok (record (after_unit nothing_read group outermost comparisons) { test = test; group = no_group; awaited = awaits_value })
unfolding read_awaited read_operator with_head whole_test
arrow_step context column group outermost comparisons test e = rw e refl

value_is_no_name : (token : RuleToken) (value : ℕ) → value_read token ≡ Ok value → may_be_name token ≡ false
value_is_no_name name_word value e = absurd (cc)
value_is_no_name _ value e = refl

value_has_room : (token : RuleToken) (value : ℕ) → value_read token ≡ Ok value → lacks_room token ≡ false
value_has_room no_room value e = absurd (cc)
value_has_room _ value e = refl

value_step : (context : LineContext) (column : ℕ) (reading : Reading) (token : RuleToken) (value : ℕ) → value_read token ≡ Ok value
    → read_token context column (record reading { awaited = awaits_value }) token
    ≡ Ok (record reading { test = any_cell; statement = line_statement (rule_line reading.test value); awaited = awaits_end })
unfolding read_awaited read_value
value_step context column reading token value e = rw (value_is_no_name token value e, value_has_room token value e, e) refl

block_step : (context : LineContext) (column : ℕ) (group : GroupRead) (outermost comparisons : ℕ) (test : TestRead) → group_test group ≡ Some test → context.blocks < 64
    → read_token context column (after_unit nothing_read group outermost comparisons) open_brace
    ≡ Ok (record (after_unit nothing_read group outermost comparisons) { statement = line_statement (block_line test); group = no_group; awaited = awaits_end })
unfolding read_awaited read_operator with_block whole_test
block_step context column group outermost comparisons test e h = rw (e, lt-leb 64 context.blocks h) refl

-- After this statement, reading ends.
abbrev EndsWith : StatementRead → Reading → Type 0
EndsWith statement reading = statement_at_end reading.awaited reading.statement ≡ Ok statement

statement_read : (context : LineContext) (found : List RuleFound) (reading : Reading) (column : ℕ) (statement : StatementRead)
    → Reads context reading (map (λ it. it.token) found) (EndsWith statement) → statement_from context reading column found ≡ Ok statement
statement_read context [] reading column statement h = statement_end context column reading statement h
statement_read context (first ∷ rest) reading column statement h =
    statement_more context column reading (h first.column).0 first rest (h first.column).1 ∙ statement_read context rest (h first.column).0 first.after statement (h first.column).2

-- The statement of a line that begins with the tokens of a test depends on the tokens after them.
line_begins : (context : LineContext) (found : List RuleFound) (test : TestForm) (rest : List RuleToken) (statement : StatementRead)
    → TestFits context context.blocks test → test_count test ≤ 4096 → map (λ it. it.token) found ≡ test_tokens test ++ rest
    → ((last : ℕ) (end : Reading) → Ended context end (after_unit nothing_read (group_written test) last (test_count test)) → Reads context end rest (EndsWith statement))
    → statement_from context nothing_read 1 found ≡ Ok statement
line_begins context found test rest statement fits bound same h =
    let none : context.blocks ≡ context.blocks + length nothing_read.around = omega arith in
    let count : test_count test ≡ 0 + test_count test = omega arith in
    statement_read context found nothing_read 1 statement
    (subst (λ (tokens : List RuleToken). Reads context nothing_read tokens (EndsWith statement)) (sym same)
    (reads_append context (test_tokens test) rest nothing_read (EndsWith statement)
    (test_reads context test awaits_start nothing_read 0 (test_count test) (λ next. Reads context next rest (EndsWith statement)) (begins_start context)
    (subst (λ (k : ℕ). TestFits context k test) none fits) count bound h)))

-- A rule.
pub rule_is_read : (context : LineContext) (found : List RuleFound) (test : TestForm) (token : RuleToken) (value : ℕ)
    → TestFits context context.blocks test → test_count test ≤ 4096 → value_read token ≡ Ok value
    → map (λ it. it.token) found ≡ test_tokens test ++ (arrow_mark ∷ token ∷ [])
    → statement_from context nothing_read 1 found ≡ Ok (line_statement (rule_line (test_written test) value))
rule_is_read context found test token value fits bound is_value same =
    line_begins context found test (arrow_mark ∷ token ∷ []) (line_statement (rule_line (test_written test) value)) fits bound same (λ last end ended.
    λ column. (
      _,
      ended column arrow_mark refl ∙ arrow_step context column (group_written test) last (test_count test) (test_written test) (written_test test),
      λ column. (_, value_step context column (record (after_unit nothing_read (group_written test) last (test_count test)) { test = test_written test; group = no_group; awaited = awaits_value }) token value is_value, refl),
    ))

-- The head of a block.
pub head_is_read : (context : LineContext) (found : List RuleFound) (test : TestForm)
    → TestFits context context.blocks test → test_count test ≤ 4096 → context.blocks < 64
    → map (λ it. it.token) found ≡ test_tokens test ++ (open_brace ∷ [])
    → statement_from context nothing_read 1 found ≡ Ok (line_statement (block_line (test_written test)))
head_is_read context found test fits bound room same =
    line_begins context found test (open_brace ∷ []) (line_statement (block_line (test_written test))) fits bound same (λ last end ended.
    λ column. (_, ended column open_brace refl ∙ block_step context column (group_written test) last (test_count test) (test_written test) (written_test test) room, refl))
