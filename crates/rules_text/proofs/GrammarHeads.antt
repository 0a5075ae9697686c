-- A subject, its mask and its ranges, as written, are read to what they mean.
use Rattle.std.proofs.Common.{◌≡◌, ℕ, ◌+◌, ◌≤◌, ◌<◌, Bool, true, false, not, nat_lt, if◌then◌else◌, List, [], ◌∷◌, ◌++◌, length, Option, Some, None, Ok, refl, sym, ◌∙◌, subst, append_assoc, arith}
use Rattle.std.proofs.lemmas.Bool.{le-ltb, lt-leb}
use Rattle.bpf_code.specs.declared.instr.Size.{Size}
use Rattle.rules_code.specs.declared.packet_part.Span.{Span}
use Rattle.rules_text.specs.LineGrammar.{Awaited, GroupRead, LineContext, ListRead, field_list, denied_list, path_list, Reading, SubjectRead, awaits_start, awaits_unit, awaits_operator, awaits_offset, awaits_relation, awaits_mask, awaits_sign, awaits_constant, awaits_dots, awaits_high, awaits_comma, awaits_low, awaits_slash, awaits_channel, group_test, group_with, no_group, field_of_list, list_test, path_test, read_awaited, read_channel, read_comma, read_constant, read_dots, read_high, read_low, read_mask, read_offset, read_operator, read_relation, read_sign, read_slash, read_start, read_token, read_unit, range_of_one, subject_of, with_closed_parenthesis, with_list, with_open_parenthesis, with_range, with_unit}
use Rattle.rules_text.specs.RuleGrammar.{FieldFits, HeadFits, HeadForm, bare_head, equal_head, unequal_head, path_head, OrderForm, less_order, at_most_order, greater_order, at_least_order, head_tokens, list_of_head, order_sign, HighFits, ListFits, MaskFits, RangeForm, SubjectFits, field_tokens, high_tokens, list_tokens, mask_tokens, span_from, spans_written, subject_tokens}
use Rattle.rules_text.specs.RulesRead.{FieldRead, vpi_field, TestRead, comparing, compared, gfc_field, vci_field, pti_field, clp_field, octets_field}
use Rattle.rules_text.specs.declared.lexer.Sign.{Sign}
use Rattle.rules_text.specs.declared.lexer.Sign.TheVariants.{Equal as equal_sign, Unequal as unequal_sign}
use Rattle.rules_text.specs.RuleTokens.{RuleToken, test_word, not_word, and_word, or_word, field_word, size_word, number_word, arrow_mark, open_brace, open_parenthesis, close_parenthesis, mask_mark, comma_mark, dots_mark, slash_mark, star_mark, sign_mark}
use Rattle.rules_text.specs.Subjects.{header_read, most_of_field, octets_read}

-- What was read, with these parts of it.
abbrev pub at_state : Reading → Awaited → GroupRead → List Span → ℕ → Reading
at_state reading awaited group spans comparisons = record reading { awaited = awaited; group = group; spans = spans; comparisons = comparisons }

-- Reading the tokens at any columns ends where this holds.
abbrev pub Reads : LineContext → Reading → List RuleToken → (Reading → Type 0) → Type 0
Reads context reading [] P = P reading
Reads context reading (token ∷ rest) P =
    (column : ℕ) → (next : Reading) × (read_token context column reading token ≡ Ok next) × Reads context next rest P

pub reads_append : (context : LineContext) (first rest : List RuleToken) (reading : Reading) (P : Reading → Type 0)
    → Reads context reading first (λ next. Reads context next rest P) → Reads context reading (first ++ rest) P
reads_append context [] rest reading P h = h
reads_append context (token ∷ first) rest reading P h = λ column. ((h column).0, (h column).1, reads_append context first rest (h column).0 P (h column).2)

-- Whether the token may come after a unit.
abbrev pub is_operator : RuleToken → Bool
is_operator and_word = true
is_operator or_word = true
is_operator close_parenthesis = true
is_operator open_brace = true
is_operator arrow_mark = true
is_operator _ = false

-- Whether a unit may begin with the token.
abbrev pub is_first : RuleToken → Bool
is_first (test_word test) = true
is_first (number_word k) = true
is_first not_word = true
is_first open_parenthesis = true
is_first (field_word field) = true
is_first (size_word size) = true
is_first _ = false

-- A token after a unit is read alike in both.
abbrev pub Ended : LineContext → Reading → Reading → Type 0
Ended context reading other = (column : ℕ) (token : RuleToken) → is_operator token ≡ true → read_token context column reading token ≡ read_token context column other token

-- The first token of a unit is read here.
abbrev pub Begins : LineContext → Awaited → Type 0
Begins context begin = (column : ℕ) (reading : Reading) (token : RuleToken) → is_first token ≡ true → read_awaited begin context column reading token ≡ read_unit context column reading token

false_true : {A : Type 0} → false ≡ true → A
false_true e = absurd (cc)

pub begins_unit : (context : LineContext) → Begins context awaits_unit
unfolding read_awaited
begins_unit context column reading token h = refl

pub begins_start : (context : LineContext) → Begins context awaits_start
unfolding read_awaited read_start
begins_start context column reading (test_word test) h = refl
begins_start context column reading (number_word k) h = refl
begins_start context column reading not_word h = refl
begins_start context column reading open_parenthesis h = refl
begins_start context column reading (field_word field) h = refl
begins_start context column reading (size_word size) h = refl
begins_start context column reading _ h = false_true h

-- One more unit.
pub with_unit-ok : (reading : Reading) (test : TestRead) → reading.comparisons < 4096
    → with_unit reading test ≡ Ok (record reading { comparisons = reading.comparisons + 1; group = group_with reading.group test; awaited = awaits_operator })
unfolding with_unit
with_unit-ok reading test h = rw (lt-leb 4096 reading.comparisons h) refl

pub word_step : (context : LineContext) (column : ℕ) (reading : Reading) (test : TestRead) → read_unit context column reading (test_word test) ≡ with_unit reading test
unfolding read_unit
word_step context column reading test = refl

pub not_step : (context : LineContext) (column : ℕ) (reading : Reading) (begin : Awaited) (alternatives last_alternative : Option TestRead) (negated : Bool) (comparisons : ℕ)
    → read_unit context column (at_state reading begin (record { alternatives = alternatives; last_alternative = last_alternative; negated = negated }) [] comparisons) not_word
    ≡ Ok (at_state reading awaits_unit (record { alternatives = alternatives; last_alternative = last_alternative; negated = not negated }) [] comparisons)
unfolding read_unit
not_step context column reading begin alternatives last_alternative negated comparisons = refl

pub open_step : (context : LineContext) (column : ℕ) (reading : Reading) (begin : Awaited) (group : GroupRead) (comparisons : ℕ) → context.blocks + length reading.around < 64
    → read_unit context column (at_state reading begin group [] comparisons) open_parenthesis
    ≡ Ok (at_state (record reading { around = group ∷ reading.around; outermost = (if nat_lt 0 (length reading.around) then reading.outermost else column) }) awaits_unit no_group [] comparisons)
unfolding read_unit with_open_parenthesis
open_step context column reading begin group comparisons h = rw (lt-leb 64 (context.blocks + length reading.around) h) refl

pub close_step : (context : LineContext) (column : ℕ) (reading : Reading) (group inner : GroupRead) (around : List GroupRead) (test : TestRead) (comparisons : ℕ)
    → group_test inner ≡ Some test
    → read_token context column (at_state (record reading { around = group ∷ around }) awaits_operator inner [] comparisons) close_parenthesis
    ≡ Ok (at_state (record reading { around = around }) awaits_operator (group_with group test) [] comparisons)
unfolding read_awaited read_operator with_closed_parenthesis
close_step context column reading group inner around test comparisons e = rw e refl

-- A field of the header where a unit begins.
header_step : (context : LineContext) (column : ℕ) (reading : Reading) (begin : Awaited) (group : GroupRead) (comparisons : ℕ) (name : FieldRead) → header_read context.side name ≡ Ok name
    → read_unit context column (at_state reading begin group [] comparisons) (field_word name) ≡ Ok (at_state reading (awaits_relation (subject_of name)) group [] comparisons)
unfolding read_unit
header_step context column reading begin group comparisons name e = rw e refl

size_step : (context : LineContext) (column : ℕ) (reading : Reading) (begin : Awaited) (group : GroupRead) (comparisons : ℕ) (size : Size)
    → read_unit context column (at_state reading begin group [] comparisons) (size_word size) ≡ Ok (at_state reading (awaits_offset size) group [] comparisons)
unfolding read_unit
size_step context column reading begin group comparisons size = refl

offset_step : (context : LineContext) (column : ℕ) (reading : Reading) (group : GroupRead) (comparisons : ℕ) (size : Size) (at : ℕ) → octets_read size at ≡ Ok (octets_field size at)
    → read_token context column (at_state reading (awaits_offset size) group [] comparisons) (number_word at) ≡ Ok (at_state reading (awaits_relation (subject_of (octets_field size at))) group [] comparisons)
unfolding read_awaited read_offset
offset_step context column reading group comparisons size at e = rw e refl

-- The tokens of a field.
header_reads : (context : LineContext) (begin : Awaited) (reading : Reading) (group : GroupRead) (comparisons : ℕ) (P : Reading → Type 0) (name : FieldRead)
    → Begins context begin → header_read context.side name ≡ Ok name → P (at_state reading (awaits_relation (subject_of name)) group [] comparisons)
    → Reads context (at_state reading begin group [] comparisons) (field_word name ∷ []) P
header_reads context begin reading group comparisons P name begins e h =
    λ column. (
      at_state reading (awaits_relation (subject_of name)) group [] comparisons,
      begins column (at_state reading begin group [] comparisons) (field_word name) refl ∙ header_step context column reading begin group comparisons name e,
      h,
    )

field_reads : (context : LineContext) (begin : Awaited) (reading : Reading) (group : GroupRead) (comparisons : ℕ) (P : Reading → Type 0) (field : FieldRead)
    → Begins context begin → FieldFits context field → P (at_state reading (awaits_relation (subject_of field)) group [] comparisons)
    → Reads context (at_state reading begin group [] comparisons) (field_tokens field) P
field_reads context begin reading group comparisons P gfc_field begins fits h = header_reads context begin reading group comparisons P gfc_field begins fits h
field_reads context begin reading group comparisons P vpi_field begins fits h = header_reads context begin reading group comparisons P vpi_field begins fits h
field_reads context begin reading group comparisons P vci_field begins fits h = header_reads context begin reading group comparisons P vci_field begins fits h
field_reads context begin reading group comparisons P pti_field begins fits h = header_reads context begin reading group comparisons P pti_field begins fits h
field_reads context begin reading group comparisons P clp_field begins fits h = header_reads context begin reading group comparisons P clp_field begins fits h
field_reads context begin reading group comparisons P (octets_field size at) begins fits h =
    λ column. (
      at_state reading (awaits_offset size) group [] comparisons,
      begins column (at_state reading begin group [] comparisons) (size_word size) refl ∙ size_step context column reading begin group comparisons size,
      λ column. (at_state reading (awaits_relation (subject_of (octets_field size at))) group [] comparisons, offset_step context column reading group comparisons size at fits, h),
    )

-- Whether a comparison goes on with the token.
abbrev pub is_compared : RuleToken → Bool
is_compared (sign_mark sign) = true
is_compared (number_word k) = true
is_compared _ = false

-- A token after a field is read alike in both.
abbrev pub Compares : LineContext → Reading → Reading → Type 0
Compares context reading other = (column : ℕ) (token : RuleToken) → is_compared token ≡ true → read_token context column reading token ≡ read_token context column other token

unmasked : (context : LineContext) (reading : Reading) (group : GroupRead) (comparisons : ℕ) (field : FieldRead)
    → Compares context (at_state reading (awaits_relation (subject_of field)) group [] comparisons) (at_state reading (awaits_sign (subject_of field)) group [] comparisons)
unfolding read_awaited read_relation read_sign read_low
unmasked context reading group comparisons field column (sign_mark sign) h = refl
unmasked context reading group comparisons field column (number_word k) h = refl
unmasked context reading group comparisons field column _ h = false_true h

mask_begins : (context : LineContext) (column : ℕ) (reading : Reading) (group : GroupRead) (comparisons : ℕ) (field : FieldRead)
    → read_token context column (at_state reading (awaits_relation (subject_of field)) group [] comparisons) mask_mark ≡ Ok (at_state reading (awaits_mask (subject_of field)) group [] comparisons)
unfolding read_awaited read_relation
mask_begins context column reading group comparisons field = refl

mask_step : (context : LineContext) (column : ℕ) (reading : Reading) (group : GroupRead) (comparisons : ℕ) (field : FieldRead) (mask : ℕ) → mask ≤ most_of_field context.side field
    → read_token context column (at_state reading (awaits_mask (subject_of field)) group [] comparisons) (number_word mask)
    ≡ Ok (at_state reading (awaits_sign (record { field = field; mask = Some mask })) group [] comparisons)
unfolding read_awaited read_mask
mask_step context column reading group comparisons field mask h = rw (le-ltb (most_of_field context.side field) mask h) refl

-- The tokens of a mask.
mask_reads : (context : LineContext) (reading : Reading) (group : GroupRead) (comparisons : ℕ) (P : Reading → Type 0) (field : FieldRead) (mask : Option ℕ)
    → MaskFits (most_of_field context.side field) mask
    → ((next : Reading) → Compares context next (at_state reading (awaits_sign (record { field = field; mask = mask })) group [] comparisons) → P next)
    → Reads context (at_state reading (awaits_relation (subject_of field)) group [] comparisons) (mask_tokens mask) P
mask_reads context reading group comparisons P field None fits h = h _ (unmasked context reading group comparisons field)
mask_reads context reading group comparisons P field (Some mask) fits h =
    λ column. (
      at_state reading (awaits_mask (subject_of field)) group [] comparisons,
      mask_begins context column reading group comparisons field,
      λ column. (
        at_state reading (awaits_sign (record { field = field; mask = Some mask })) group [] comparisons,
        mask_step context column reading group comparisons field mask fits,
        h _ (λ column token is. refl),
      ),
    )

-- The tokens of a field and its mask.
pub subject_reads : (context : LineContext) (begin : Awaited) (reading : Reading) (group : GroupRead) (comparisons : ℕ) (P : Reading → Type 0) (subject : SubjectRead)
    → Begins context begin → SubjectFits context subject
    → ((next : Reading) → Compares context next (at_state reading (awaits_sign subject) group [] comparisons) → P next)
    → Reads context (at_state reading begin group [] comparisons) (subject_tokens subject) P
subject_reads context begin reading group comparisons P subject begins fits h =
    reads_append context (field_tokens subject.field) (mask_tokens subject.mask) (at_state reading begin group [] comparisons) P
    (field_reads context begin reading group comparisons (λ next. Reads context next (mask_tokens subject.mask) P) subject.field begins fits.field
    (mask_reads context reading group comparisons P subject.field subject.mask fits.mask h))

pub order_step : (context : LineContext) (column : ℕ) (reading : Reading) (group : GroupRead) (comparisons : ℕ) (subject : SubjectRead) (order : OrderForm)
    → read_token context column (at_state reading (awaits_sign subject) group [] comparisons) (sign_mark (order_sign order))
    ≡ Ok (at_state reading (awaits_constant subject (order_sign order)) group [] comparisons)
unfolding read_awaited read_sign
order_step context column reading group comparisons subject less_order = refl
order_step context column reading group comparisons subject at_most_order = refl
order_step context column reading group comparisons subject greater_order = refl
order_step context column reading group comparisons subject at_least_order = refl

equal_step : (context : LineContext) (column : ℕ) (reading : Reading) (group : GroupRead) (comparisons : ℕ) (subject : SubjectRead)
    → read_token context column (at_state reading (awaits_sign subject) group [] comparisons) (sign_mark equal_sign) ≡ Ok (at_state reading (awaits_low (field_list subject)) group [] comparisons)
unfolding read_awaited read_sign
equal_step context column reading group comparisons subject = refl

unequal_step : (context : LineContext) (column : ℕ) (reading : Reading) (group : GroupRead) (comparisons : ℕ) (subject : SubjectRead)
    → read_token context column (at_state reading (awaits_sign subject) group [] comparisons) (sign_mark unequal_sign) ≡ Ok (at_state reading (awaits_low (denied_list subject)) group [] comparisons)
unfolding read_awaited read_sign
unequal_step context column reading group comparisons subject = refl

pub constant_step : (context : LineContext) (column : ℕ) (reading : Reading) (group : GroupRead) (comparisons : ℕ) (subject : SubjectRead) (sign : Sign) (k : ℕ)
    → k ≤ most_of_field context.side subject.field → comparisons < 4096
    → read_token context column (at_state reading (awaits_constant subject sign) group [] comparisons) (number_word k)
    ≡ Ok (at_state reading awaits_operator (group_with group (comparing subject.field subject.mask (compared sign k))) [] (comparisons + 1))
unfolding read_awaited read_constant with_unit
constant_step context column reading group comparisons subject sign k fits h = rw (le-ltb (most_of_field context.side subject.field) k fits, lt-leb 4096 comparisons h) refl

low_step : (context : LineContext) (column : ℕ) (reading : Reading) (group : GroupRead) (spans : List Span) (comparisons : ℕ) (of : ListRead) (low : ℕ)
    → low ≤ most_of_field context.side (field_of_list of)
    → read_token context column (at_state reading (awaits_low of) group spans comparisons) (number_word low) ≡ Ok (at_state reading (awaits_dots of low) group spans comparisons)
unfolding read_awaited read_low
low_step context column reading group spans comparisons of low fits = rw (le-ltb (most_of_field context.side (field_of_list of)) low fits) refl

-- The first number of a list is read where a sign may come as it is after a comma.
first_low : (context : LineContext) (column : ℕ) (reading : Reading) (group : GroupRead) (comparisons : ℕ) (subject : SubjectRead) (low : ℕ) → low ≤ most_of_field context.side subject.field
    → read_token context column (at_state reading (awaits_sign subject) group [] comparisons) (number_word low) ≡ Ok (at_state reading (awaits_dots (field_list subject) low) group [] comparisons)
unfolding read_awaited read_sign read_low
first_low context column reading group comparisons subject low fits = rw (le-ltb (most_of_field context.side subject.field) low fits) refl

pub path_step : (context : LineContext) (column : ℕ) (reading : Reading) (begin : Awaited) (group : GroupRead) (comparisons path : ℕ) → path ≤ most_of_field context.side vpi_field
    → read_unit context column (at_state reading begin group [] comparisons) (number_word path) ≡ Ok (at_state reading (awaits_slash path) group [] comparisons)
unfolding read_unit
path_step context column reading begin group comparisons path fits = rw (le-ltb (most_of_field context.side vpi_field) path fits) refl

pub slash_step : (context : LineContext) (column : ℕ) (reading : Reading) (group : GroupRead) (comparisons path : ℕ)
    → read_token context column (at_state reading (awaits_slash path) group [] comparisons) slash_mark ≡ Ok (at_state reading (awaits_channel path) group [] comparisons)
unfolding read_awaited read_slash
slash_step context column reading group comparisons path = refl

channel_low : (context : LineContext) (column : ℕ) (reading : Reading) (group : GroupRead) (comparisons path low : ℕ) → low ≤ most_of_field context.side (field_of_list (path_list path))
    → read_token context column (at_state reading (awaits_channel path) group [] comparisons) (number_word low) ≡ Ok (at_state reading (awaits_dots (path_list path) low) group [] comparisons)
unfolding read_awaited read_channel read_low
channel_low context column reading group comparisons path low fits = rw (le-ltb (most_of_field context.side (field_of_list (path_list path))) low fits) refl

pub star_step : (context : LineContext) (column : ℕ) (reading : Reading) (group : GroupRead) (comparisons path : ℕ) → comparisons < 4096
    → read_token context column (at_state reading (awaits_channel path) group [] comparisons) star_mark
    ≡ Ok (at_state reading awaits_operator (group_with group (path_test path)) [] (comparisons + 1))
unfolding read_awaited read_channel with_unit
star_step context column reading group comparisons path h = rw (lt-leb 4096 comparisons h) refl

dots_step : (context : LineContext) (column : ℕ) (reading : Reading) (group : GroupRead) (spans : List Span) (comparisons : ℕ) (of : ListRead) (low : ℕ)
    → read_token context column (at_state reading (awaits_dots of low) group spans comparisons) dots_mark ≡ Ok (at_state reading (awaits_high of low) group spans comparisons)
unfolding read_awaited read_dots
dots_step context column reading group spans comparisons of low = refl

high_step : (context : LineContext) (column : ℕ) (reading : Reading) (group : GroupRead) (spans : List Span) (comparisons : ℕ) (of : ListRead) (low high : ℕ)
    → low ≤ high → high ≤ most_of_field context.side (field_of_list of) → comparisons < 4096
    → read_token context column (at_state reading (awaits_high of low) group spans comparisons) (number_word high)
    ≡ Ok (at_state reading (awaits_comma of (record { low = low; high = high })) group spans (comparisons + 1))
unfolding read_awaited read_high with_range
high_step context column reading group spans comparisons of low high order fits h =
    rw (le-ltb (most_of_field context.side (field_of_list of)) high fits, le-ltb high low order, lt-leb 4096 comparisons h) refl

-- A list ends after the range that was read last.
comma_ends : (context : LineContext) (reading : Reading) (group : GroupRead) (spans : List Span) (comparisons : ℕ) (of : ListRead) (span : Span)
    → Ended context (at_state reading (awaits_comma of span) group spans comparisons)
    (at_state reading awaits_operator (group_with group (list_test of (spans ++ span ∷ []))) [] comparisons)
unfolding read_awaited read_comma with_list
comma_ends context reading group spans comparisons of span column and_word is = refl
comma_ends context reading group spans comparisons of span column or_word is = refl
comma_ends context reading group spans comparisons of span column close_parenthesis is = refl
comma_ends context reading group spans comparisons of span column open_brace is = refl
comma_ends context reading group spans comparisons of span column arrow_mark is = refl
comma_ends context reading group spans comparisons of span column _ is = false_true is

-- A range of one number is counted with the token after it.
dots_ends : (context : LineContext) (reading : Reading) (group : GroupRead) (spans : List Span) (comparisons : ℕ) (of : ListRead) (low : ℕ) → comparisons < 4096
    → Ended context (at_state reading (awaits_dots of low) group spans comparisons) (at_state reading (awaits_comma of (range_of_one low)) group spans (comparisons + 1))
unfolding read_awaited read_dots with_range read_comma with_list
dots_ends context reading group spans comparisons of low h column and_word is = rw (lt-leb 4096 comparisons h) refl
dots_ends context reading group spans comparisons of low h column or_word is = rw (lt-leb 4096 comparisons h) refl
dots_ends context reading group spans comparisons of low h column close_parenthesis is = rw (lt-leb 4096 comparisons h) refl
dots_ends context reading group spans comparisons of low h column open_brace is = rw (lt-leb 4096 comparisons h) refl
dots_ends context reading group spans comparisons of low h column arrow_mark is = rw (lt-leb 4096 comparisons h) refl
dots_ends context reading group spans comparisons of low h column _ is = false_true is

comma_step : (context : LineContext) (column : ℕ) (reading : Reading) (group : GroupRead) (spans : List Span) (comparisons : ℕ) (of : ListRead) (span : Span)
    → read_token context column (at_state reading (awaits_comma of span) group spans comparisons) comma_mark
    ≡ Ok (at_state reading (awaits_low of) group (spans ++ span ∷ []) comparisons)
unfolding read_awaited read_comma
comma_step context column reading group spans comparisons of span = refl

dots_comma : (context : LineContext) (column : ℕ) (reading : Reading) (group : GroupRead) (spans : List Span) (comparisons : ℕ) (of : ListRead) (low : ℕ) → comparisons < 4096
    → read_token context column (at_state reading (awaits_dots of low) group spans comparisons) comma_mark
    ≡ Ok (at_state reading (awaits_low of) group (spans ++ range_of_one low ∷ []) (comparisons + 1))
unfolding read_awaited read_dots with_range read_comma
dots_comma context column reading group spans comparisons of low h = rw (lt-leb 4096 comparisons h) refl

-- The rest of a range.
high_reads : (context : LineContext) (reading : Reading) (group : GroupRead) (spans : List Span) (comparisons : ℕ) (of : ListRead) (P : Reading → Type 0) (low : ℕ) (high : Option ℕ)
    → HighFits low (most_of_field context.side (field_of_list of)) high → comparisons < 4096
    → ((end : Reading)
    → ((column : ℕ) → read_token context column end comma_mark ≡ Ok (at_state reading (awaits_low of) group (spans ++ span_from low high ∷ []) (comparisons + 1)))
    → Ended context end (at_state reading (awaits_comma of (span_from low high)) group spans (comparisons + 1))
    → P end)
    → Reads context (at_state reading (awaits_dots of low) group spans comparisons) (high_tokens high) P
high_reads context reading group spans comparisons of P low None fits room h =
    h _ (λ column. dots_comma context column reading group spans comparisons of low room) (dots_ends context reading group spans comparisons of low room)
high_reads context reading group spans comparisons of P low (Some high) fits room h =
    λ column. (
      at_state reading (awaits_high of low) group spans comparisons,
      dots_step context column reading group spans comparisons of low,
      λ column. (
        at_state reading (awaits_comma of (record { low = low; high = high })) group spans (comparisons + 1),
        high_step context column reading group spans comparisons of low high fits.0 fits.1 room,
        h _ (λ column. comma_step context column reading group spans (comparisons + 1) of (record { low = low; high = high })) (λ column token is. refl),
      ),
    )

-- What was read after a list.
abbrev pub after_list : Reading → GroupRead → ListRead → List Span → ℕ → Reading
after_list reading group of spans comparisons = at_state reading awaits_operator (group_with group (list_test of spans)) [] comparisons

list_moved : (context : LineContext) (end reading : Reading) (group : GroupRead) (of : ListRead) (spans all : List Span) (count total : ℕ) → spans ≡ all → count ≡ total
    → Ended context end (after_list reading group of spans count) → Ended context end (after_list reading group of all total)
list_moved context end reading group of spans all count total same equal h =
    subst (λ (n : ℕ). Ended context end (after_list reading group of all n)) equal
    (subst (λ (xs : List Span). Ended context end (after_list reading group of xs count)) same h)

-- The tokens of a list, from where its first number is read.
pub list_reads : (context : LineContext) (reading : Reading) (group : GroupRead) (of : ListRead) (P : Reading → Type 0) (ranges : List RangeForm) (last : RangeForm) (start : Reading) (spans all : List Span) (comparisons total : ℕ)
    → ((column low : ℕ) → low ≤ most_of_field context.side (field_of_list of) → read_token context column start (number_word low) ≡ Ok (at_state reading (awaits_dots of low) group spans comparisons))
    → ListFits (most_of_field context.side (field_of_list of)) ranges last
    → all ≡ spans ++ spans_written ranges last → total ≡ comparisons + (length ranges + 1) → total ≤ 4096
    → ((end : Reading) → Ended context end (after_list reading group of all total) → P end)
    → Reads context start (list_tokens ranges last) P
list_reads context reading group of P [] last start spans all comparisons total lows fits same count bound h =
    let room : comparisons < 4096 = omega arith in
    let equal : comparisons + 1 ≡ total = omega arith in
    λ column. (
      at_state reading (awaits_dots of last.low) group spans comparisons,
      lows column last.low fits.low,
      high_reads context reading group spans comparisons of P last.low last.high fits.high room (λ end comma ends.
          h end (list_moved context end reading group of (spans ++ span_from last.low last.high ∷ []) all (comparisons + 1) total (sym same) equal
          (λ column token is. ends column token is ∙ comma_ends context reading group spans (comparisons + 1) of (span_from last.low last.high) column token is))),
    )
list_reads context reading group of P (range ∷ ranges) last start spans all comparisons total lows fits same count bound h =
    let room : comparisons < 4096 = omega arith in
    let equal : total ≡ comparisons + 1 + (length ranges + 1) = omega arith in
    let joined : all ≡ (spans ++ span_from range.low range.high ∷ []) ++ spans_written ranges last = rw append_assoc same in
    λ column. (
      at_state reading (awaits_dots of range.low) group spans comparisons,
      lows column range.low fits.0.low,
      reads_append context (high_tokens range.high) (comma_mark ∷ list_tokens ranges last) (at_state reading (awaits_dots of range.low) group spans comparisons) P
          (high_reads context reading group spans comparisons of (λ next. Reads context next (comma_mark ∷ list_tokens ranges last) P) range.low range.high fits.0.high room (λ end comma ends.
          λ column. (
            at_state reading (awaits_low of) group (spans ++ span_from range.low range.high ∷ []) (comparisons + 1),
            comma column,
            list_reads context reading group of P ranges last (at_state reading (awaits_low of) group (spans ++ span_from range.low range.high ∷ []) (comparisons + 1))
                (spans ++ span_from range.low range.high ∷ []) all (comparisons + 1) total
                (λ column low fits. low_step context column reading group (spans ++ span_from range.low range.high ∷ []) (comparisons + 1) of low fits)
                fits.1 joined equal bound h,
          ))),
    )

-- The tokens before a list, up to where its first number is read.
pub head_reads : (context : LineContext) (begin : Awaited) (reading : Reading) (group : GroupRead) (comparisons : ℕ) (P : Reading → Type 0) (head : HeadForm)
    → Begins context begin → HeadFits context head
    → ((next : Reading)
    → ((column low : ℕ) → low ≤ most_of_field context.side (field_of_list (list_of_head head))
    → read_token context column next (number_word low) ≡ Ok (at_state reading (awaits_dots (list_of_head head) low) group [] comparisons))
    → P next)
    → Reads context (at_state reading begin group [] comparisons) (head_tokens head) P
head_reads context begin reading group comparisons P (bare_head subject) begins fits h =
    subject_reads context begin reading group comparisons P subject begins fits (λ next compares.
    h next (λ column low fits. compares column (number_word low) refl ∙ first_low context column reading group comparisons subject low fits))
head_reads context begin reading group comparisons P (equal_head subject) begins fits h =
    reads_append context (subject_tokens subject) (sign_mark equal_sign ∷ []) (at_state reading begin group [] comparisons) P
    (subject_reads context begin reading group comparisons (λ next. Reads context next (sign_mark equal_sign ∷ []) P) subject begins fits (λ next compares.
    λ column. (
      at_state reading (awaits_low (field_list subject)) group [] comparisons,
      compares column (sign_mark equal_sign) refl ∙ equal_step context column reading group comparisons subject,
      h _ (λ column low fits. low_step context column reading group [] comparisons (field_list subject) low fits),
    )))
head_reads context begin reading group comparisons P (unequal_head subject) begins fits h =
    reads_append context (subject_tokens subject) (sign_mark unequal_sign ∷ []) (at_state reading begin group [] comparisons) P
    (subject_reads context begin reading group comparisons (λ next. Reads context next (sign_mark unequal_sign ∷ []) P) subject begins fits (λ next compares.
    λ column. (
      at_state reading (awaits_low (denied_list subject)) group [] comparisons,
      compares column (sign_mark unequal_sign) refl ∙ unequal_step context column reading group comparisons subject,
      h _ (λ column low fits. low_step context column reading group [] comparisons (denied_list subject) low fits),
    )))
head_reads context begin reading group comparisons P (path_head path) begins fits h =
    λ column. (
      at_state reading (awaits_slash path) group [] comparisons,
      begins column (at_state reading begin group [] comparisons) (number_word path) refl ∙ path_step context column reading begin group comparisons path fits,
      λ column. (
        at_state reading (awaits_channel path) group [] comparisons,
        slash_step context column reading group comparisons path,
        h _ (λ column low fits. channel_low context column reading group comparisons path low fits),
      ),
    )

-- What was read after a unit, with the column of a parenthesis that was opened before.
abbrev pub after_unit : Reading → GroupRead → ℕ → ℕ → Reading
after_unit reading group outermost comparisons = at_state (record reading { outermost = outermost }) awaits_operator group [] comparisons
