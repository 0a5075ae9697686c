-- The beginnings of tests of the grammar, and how units end them. The tokens of a line that are read so far are always those of one.
use Rattle.std.proofs.Common.{◌≡◌, ◌+◌, nat_le, nat_lt, ℕ, zero, suc, Bool, true, false, not, if◌then◌else◌, List, [], ◌∷◌, ◌++◌, length, map, Option, Some, None, option_map, Result, Ok, Err, refl, sym, ap, ◌∙◌, subst, append_assoc, append-nil}
use Rattle.bpf_code.specs.declared.instr.Size.{Size}
use Rattle.rules_code.specs.declared.packet_part.Span.{Span}
use Rattle.upc_cell.specs.declared.side.Side.{Side}
use Rattle.upc_cell.specs.declared.side.Side.TheVariants.{Uni, Nni, UniPaths, NniPaths}
use Rattle.rules_text.specs.Laws.{IsHeadWritten, IsRuleWritten}
use Rattle.rules_text.specs.LineGrammar.{Awaited, GroupRead, LineContext, LineStep, ListRead, Reading, StatementRead, awaits_start, awaits_unit, awaits_operator, awaits_offset, awaits_relation, awaits_mask, awaits_sign, awaits_constant, awaits_dots, awaits_high, awaits_comma, awaits_low, awaits_slash, awaits_channel, awaits_arrow, awaits_value, awaits_only_value, awaits_side, awaits_end, and_with, found_then, group_after_not, group_with, line_statement, negated_if, no_group, nothing_read, read_unit, subject_of, with_open_parenthesis, with_unit}
use Rattle.rules_text.specs.RuleGrammar.{HeadForm, OrderForm, PartForm, RangeForm, TestForm, UnitForm, word_unit, not_unit, one_unit, and_unit, one_part, or_part, field_tokens, head_tokens, high_tokens, list_of_head, order_sign, part_written, span_from, subject_tokens, test_tokens, test_written, unit_tokens, unit_written, units_tokens}
use Rattle.rules_text.specs.RulesRead.{FieldRead, gfc_field, vpi_field, vci_field, pti_field, clp_field, octets_field, TestRead, block_line, joined_by_and, rule_line}
use Rattle.rules_text.specs.RuleTokens.{RuleToken, and_word, arrow_mark, comma_mark, dots_mark, field_word, mask_mark, not_word, number_word, open_parenthesis, or_word, sign_mark, size_word, slash_mark, test_word}
use Rattle.rules_text.specs.Subjects.{header_read, last_offset, most_of_field, number_within, octets_at_token}
use Rattle.rules_text.specs.declared.fault.RuleFault.{RuleFault}
use Rattle.rules_text.specs.declared.fault.RuleFaultKind.{RuleFaultKind}
use Rattle.rules_text.specs.declared.fault.RuleFaultKind.TheVariants.{OutsideCell, TooDeep, TooLarge, TooLong}

-- ---- the beginnings of tests

-- What comes before a unit: alternatives with `or`, parts with `and`, and as many `not`.
pub record OpenForm : Type 0 where
  pub alternatives : Option TestForm
  pub last_alternative : Option PartForm
  pub nots : ℕ

-- Nothing.
abbrev pub no_form : OpenForm
no_form = record { alternatives = None; last_alternative = None; nots = 0 }

abbrev pub nots_tokens : ℕ → List RuleToken
nots_tokens zero = []
nots_tokens (suc n) = not_word ∷ nots_tokens n

abbrev pub alternatives_tokens : Option TestForm → List RuleToken
alternatives_tokens None = []
alternatives_tokens (Some test) = test_tokens test ++ (or_word ∷ [])

abbrev pub last_tokens : Option PartForm → List RuleToken
last_tokens None = []
last_tokens (Some part) = units_tokens part ++ (and_word ∷ [])

abbrev pub open_tokens : OpenForm → List RuleToken
open_tokens form = alternatives_tokens form.alternatives ++ (last_tokens form.last_alternative ++ nots_tokens form.nots)

-- Whether this many `not` deny a test that is denied so.
abbrev pub denied_after : ℕ → Bool → Bool
denied_after zero denied = denied
denied_after (suc n) denied = denied_after n (not denied)

-- The group is what was read of this.
pub record IsOpen (form : OpenForm) (group : GroupRead) : Type 0 where
  pub alternatives : group.alternatives ≡ option_map test_written form.alternatives
  pub last_alternative : group.last_alternative ≡ option_map part_written form.last_alternative
  pub negated : group.negated ≡ denied_after form.nots false

-- What comes before each open parenthesis, the innermost first.
abbrev pub around_tokens : List OpenForm → List RuleToken
around_tokens [] = []
around_tokens (form ∷ forms) = around_tokens forms ++ (open_tokens form ++ (open_parenthesis ∷ []))

abbrev pub AreOpen : List OpenForm → List GroupRead → Type 0
AreOpen [] [] = Unit {0}
AreOpen (form ∷ forms) (group ∷ groups) = IsOpen form group × AreOpen forms groups
AreOpen [] (group ∷ groups) = ⊥
AreOpen (form ∷ forms) [] = ⊥

-- The tokens are those before a unit, and these of the unit.
pub record InOpen (tokens unit : List RuleToken) (reading : Reading) : Type 0 where
  pub around : List OpenForm
  pub form : OpenForm
  pub tokens_are : tokens ≡ (around_tokens around ++ open_tokens form) ++ unit
  pub around_are : AreOpen around reading.around
  pub group_is : IsOpen form reading.group

-- What ends with a unit: alternatives with `or`, and a part.
pub record ClosedForm : Type 0 where
  pub alternatives : Option TestForm
  pub part : PartForm

abbrev pub closed_tokens : ClosedForm → List RuleToken
closed_tokens form = alternatives_tokens form.alternatives ++ units_tokens form.part

pub record IsClosed (form : ClosedForm) (group : GroupRead) : Type 0 where
  pub alternatives : group.alternatives ≡ option_map test_written form.alternatives
  pub last_alternative : group.last_alternative ≡ Some (part_written form.part)
  pub negated : group.negated ≡ false

-- The tokens are those up to the end of a unit.
pub record InClosed (tokens : List RuleToken) (reading : Reading) : Type 0 where
  pub around : List OpenForm
  pub form : ClosedForm
  pub tokens_are : tokens ≡ around_tokens around ++ closed_tokens form
  pub around_are : AreOpen around reading.around
  pub group_is : IsClosed form reading.group

-- The test that ends with such a unit.
abbrev pub closed_test : ClosedForm → TestForm
closed_test form = ended_by form.alternatives
  where
    ended_by : Option TestForm → TestForm
    ended_by None = one_part form.part
    ended_by (Some test) = or_part test form.part

-- The ranges of a list, each with a comma.
abbrev pub range_tokens : RangeForm → List RuleToken
range_tokens range = number_word range.low ∷ high_tokens range.high

abbrev pub ranges_tokens : List RangeForm → List RuleToken
ranges_tokens [] = []
ranges_tokens (range ∷ ranges) = range_tokens range ++ (comma_mark ∷ ranges_tokens ranges)

abbrev pub range_span : RangeForm → Span
range_span range = span_from range.low range.high

-- The tokens are those of a list up to these ranges, and then these.
pub record InList (tokens : List RuleToken) (of : ListRead) (more : List RuleToken) (reading : Reading) : Type 0 where
  pub head : HeadForm
  pub ranges : List RangeForm
  pub list_is : of ≡ list_of_head head
  pub spans_are : reading.spans ≡ map range_span ranges
  pub begun : InOpen tokens (head_tokens head ++ (ranges_tokens ranges ++ more)) reading

-- The statement is what the tokens mean, if it has a test.
abbrev pub StatementWritten : List RuleToken → StatementRead → Type 0
StatementWritten tokens (line_statement (rule_line test value)) = IsRuleWritten tokens test value
StatementWritten tokens (line_statement (block_line test)) = IsHeadWritten tokens test
StatementWritten tokens _ = Unit {0}

-- The tokens so far are those of a beginning of a line, where this is awaited.
abbrev pub ExplainedAt : Awaited → List RuleToken → Reading → Type 0
ExplainedAt awaits_start tokens reading = (tokens ≡ []) × (reading ≡ nothing_read)
ExplainedAt awaits_unit tokens reading = InOpen tokens [] reading × (reading.spans ≡ [])
ExplainedAt awaits_operator tokens reading = InClosed tokens reading × (reading.spans ≡ [])
ExplainedAt (awaits_offset size) tokens reading = InOpen tokens (size_word size ∷ []) reading × (reading.spans ≡ [])
ExplainedAt (awaits_relation subject) tokens reading = (subject.mask ≡ None) × InOpen tokens (subject_tokens subject) reading × (reading.spans ≡ [])
ExplainedAt (awaits_mask subject) tokens reading = (subject.mask ≡ None) × InOpen tokens (subject_tokens subject ++ (mask_mark ∷ [])) reading × (reading.spans ≡ [])
ExplainedAt (awaits_sign subject) tokens reading = InOpen tokens (subject_tokens subject) reading × (reading.spans ≡ [])
ExplainedAt (awaits_constant subject sign) tokens reading =
    (order : OrderForm) × (sign ≡ order_sign order) × InOpen tokens (subject_tokens subject ++ (sign_mark sign ∷ [])) reading × (reading.spans ≡ [])
ExplainedAt (awaits_dots of low) tokens reading = InList tokens of (number_word low ∷ []) reading
ExplainedAt (awaits_high of low) tokens reading = InList tokens of (number_word low ∷ dots_mark ∷ []) reading
ExplainedAt (awaits_comma of span) tokens reading = (range : RangeForm) × (span ≡ range_span range) × InList tokens of (range_tokens range) reading
ExplainedAt (awaits_low of) tokens reading = InList tokens of [] reading
ExplainedAt (awaits_slash path) tokens reading = InOpen tokens (number_word path ∷ []) reading × (reading.spans ≡ [])
ExplainedAt (awaits_channel path) tokens reading = InOpen tokens (number_word path ∷ slash_mark ∷ []) reading × (reading.spans ≡ [])
ExplainedAt awaits_arrow tokens reading = Unit {0}
ExplainedAt awaits_value tokens reading = (test : TestForm) × (tokens ≡ test_tokens test ++ (arrow_mark ∷ [])) × (reading.test ≡ test_written test)
ExplainedAt awaits_only_value tokens reading = Unit {0}
ExplainedAt awaits_side tokens reading = Unit {0}
ExplainedAt awaits_end tokens reading = StatementWritten tokens reading.statement

abbrev pub Explained : List RuleToken → Reading → Type 0
Explained tokens reading = ExplainedAt reading.awaited tokens reading

-- ---- steps without a fault

pub then_ok : {A B : Type 0} (found : Result A RuleFaultKind) (next : A → Result B RuleFaultKind) (result : B) → found_then found next ≡ Ok result
    → (it : A) × (found ≡ Ok it) × (next it ≡ Ok result)
then_ok (Ok it) next result e = (it, refl, e)
then_ok (Err kind) next result e = absurd (cc)

pub unless_ok : {A : Type 0} (fails : Bool) (kind : RuleFaultKind) (step : Result A RuleFaultKind) (result : A) → (if fails then Err kind else step) ≡ Ok result → step ≡ Ok result
unless_ok true kind step result e = absurd (cc)
unless_ok false kind step result e = e

pub ok_is : {A : Type 0} (one other : A) (found : Result A RuleFaultKind) → found ≡ Ok one → found ≡ Ok other → one ≡ other
ok_is one other found e f = cc

abbrev pub step_to : Reading → LineStep
step_to reading = Ok reading

pub same_statement : (one other : StatementRead) (found : Result StatementRead RuleFault) → found ≡ Ok one → found ≡ Ok other → one ≡ other
same_statement one other found e f = cc

-- The step made this.
pub made_by : (tokens : List RuleToken) (made next : Reading) (step : LineStep) → step ≡ Ok next → step ≡ Ok made → Explained tokens made → Explained tokens next
made_by tokens made next step e f h = subst (Explained tokens) (ok_is made next step f e) h

pub number_ok : (most : ℕ) (token : RuleToken) (k : ℕ) → number_within most token ≡ Ok k → token ≡ number_word k
number_ok most (number_word n) k e = ap number_word (ok_is n k (Ok n) refl (unless_ok (nat_lt most n) TooLarge (Ok n) k e))
number_ok most _ k e = absurd (cc)

pub header_ok : (side : Side) (name field : FieldRead) → header_read side name ≡ Ok field → field_word name ∷ [] ≡ field_tokens field
header_ok Nni gfc_field field e = absurd (cc)
header_ok Uni gfc_field field e = let is : gfc_field ≡ field = cc in subst (λ f. field_word gfc_field ∷ [] ≡ field_tokens f) is refl
header_ok Nni vpi_field field e = let is : vpi_field ≡ field = cc in subst (λ f. field_word vpi_field ∷ [] ≡ field_tokens f) is refl
header_ok Uni vpi_field field e = let is : vpi_field ≡ field = cc in subst (λ f. field_word vpi_field ∷ [] ≡ field_tokens f) is refl
header_ok Nni vci_field field e = let is : vci_field ≡ field = cc in subst (λ f. field_word vci_field ∷ [] ≡ field_tokens f) is refl
header_ok Uni vci_field field e = let is : vci_field ≡ field = cc in subst (λ f. field_word vci_field ∷ [] ≡ field_tokens f) is refl
header_ok Nni pti_field field e = let is : pti_field ≡ field = cc in subst (λ f. field_word pti_field ∷ [] ≡ field_tokens f) is refl
header_ok Uni pti_field field e = let is : pti_field ≡ field = cc in subst (λ f. field_word pti_field ∷ [] ≡ field_tokens f) is refl
header_ok Nni clp_field field e = let is : clp_field ≡ field = cc in subst (λ f. field_word clp_field ∷ [] ≡ field_tokens f) is refl
header_ok Uni clp_field field e = let is : clp_field ≡ field = cc in subst (λ f. field_word clp_field ∷ [] ≡ field_tokens f) is refl
header_ok Nni (octets_field size at) field e = absurd (cc)
header_ok Uni (octets_field size at) field e = absurd (cc)
header_ok NniPaths gfc_field field e = absurd (cc)
header_ok UniPaths gfc_field field e = let is : gfc_field ≡ field = cc in subst (λ f. field_word gfc_field ∷ [] ≡ field_tokens f) is refl
header_ok NniPaths vpi_field field e = let is : vpi_field ≡ field = cc in subst (λ f. field_word vpi_field ∷ [] ≡ field_tokens f) is refl
header_ok UniPaths vpi_field field e = let is : vpi_field ≡ field = cc in subst (λ f. field_word vpi_field ∷ [] ≡ field_tokens f) is refl
header_ok NniPaths vci_field field e = let is : vci_field ≡ field = cc in subst (λ f. field_word vci_field ∷ [] ≡ field_tokens f) is refl
header_ok UniPaths vci_field field e = let is : vci_field ≡ field = cc in subst (λ f. field_word vci_field ∷ [] ≡ field_tokens f) is refl
header_ok NniPaths pti_field field e = let is : pti_field ≡ field = cc in subst (λ f. field_word pti_field ∷ [] ≡ field_tokens f) is refl
header_ok UniPaths pti_field field e = let is : pti_field ≡ field = cc in subst (λ f. field_word pti_field ∷ [] ≡ field_tokens f) is refl
header_ok NniPaths clp_field field e = let is : clp_field ≡ field = cc in subst (λ f. field_word clp_field ∷ [] ≡ field_tokens f) is refl
header_ok UniPaths clp_field field e = let is : clp_field ≡ field = cc in subst (λ f. field_word clp_field ∷ [] ≡ field_tokens f) is refl
header_ok NniPaths (octets_field size at) field e = absurd (cc)
header_ok UniPaths (octets_field size at) field e = absurd (cc)

pub octets_ok : (size : Size) (token : RuleToken) (field : FieldRead) → octets_at_token size token ≡ Ok field → (at : ℕ) × (token ≡ number_word at) × (octets_field size at ≡ field)
octets_ok size (number_word at) field e =
    (at, refl, ok_is (octets_field size at) field (Ok (octets_field size at)) refl (unless_ok (nat_lt (last_offset size) at) OutsideCell (Ok (octets_field size at)) field e))
octets_ok size _ field e = absurd (cc)

-- ---- `not`

abbrev pub denied_unit : ℕ → UnitForm → UnitForm
denied_unit zero unit = unit
denied_unit (suc n) unit = not_unit (denied_unit n unit)

pub denied_tokens : (n : ℕ) (unit : UnitForm) → nots_tokens n ++ unit_tokens unit ≡ unit_tokens (denied_unit n unit)
denied_tokens zero unit = refl
denied_tokens (suc n) unit = ap (λ tokens. not_word ∷ tokens) (denied_tokens n unit)

pub denied_written : (n : ℕ) (unit : UnitForm) (denied : Bool) → unit_written denied (denied_unit n unit) ≡ unit_written (denied_after n denied) unit
denied_written zero unit denied = refl
denied_written (suc n) unit denied = denied_written n unit (not denied)

pub one_not_more : (n : ℕ) → nots_tokens n ++ (not_word ∷ []) ≡ nots_tokens (suc n)
one_not_more zero = refl
one_not_more (suc n) = ap (λ tokens. not_word ∷ tokens) (one_not_more n)

pub not_denied : (n : ℕ) (denied : Bool) → not (denied_after n denied) ≡ denied_after n (not denied)
not_denied zero denied = refl
not_denied (suc n) denied = not_denied n (not denied)

-- ---- a unit ends

abbrev pub part_with : Option PartForm → UnitForm → PartForm
part_with None unit = one_unit unit
part_with (Some part) unit = and_unit part unit

abbrev pub closed_by : OpenForm → UnitForm → ClosedForm
closed_by form unit = record { alternatives = form.alternatives; part = part_with form.last_alternative (denied_unit form.nots unit) }

pub part_tokens : (last_alternative : Option PartForm) (unit : UnitForm) → last_tokens last_alternative ++ unit_tokens unit ≡ units_tokens (part_with last_alternative unit)
part_tokens None unit = refl
part_tokens (Some part) unit = append_assoc (units_tokens part) (and_word ∷ []) (unit_tokens unit)

pub closed_by_tokens : (form : OpenForm) (unit : UnitForm) → open_tokens form ++ unit_tokens unit ≡ closed_tokens (closed_by form unit)
closed_by_tokens form unit =
    append_assoc (alternatives_tokens form.alternatives) (last_tokens form.last_alternative ++ nots_tokens form.nots) (unit_tokens unit)
    ∙ ap (λ tokens. alternatives_tokens form.alternatives ++ tokens)
    (append_assoc (last_tokens form.last_alternative) (nots_tokens form.nots) (unit_tokens unit)
    ∙ ap (λ tokens. last_tokens form.last_alternative ++ tokens) (denied_tokens form.nots unit)
    ∙ part_tokens form.last_alternative (denied_unit form.nots unit))

pub part_with_written : (last_alternative : Option PartForm) (unit : UnitForm) (test : TestRead) → test ≡ unit_written false unit
    → and_with (option_map part_written last_alternative) test ≡ part_written (part_with last_alternative unit)
part_with_written None unit test e = e
part_with_written (Some part) unit test e = ap (λ t. joined_by_and (part_written part) t) e

pub closed_by_group : (form : OpenForm) (group : GroupRead) (unit : UnitForm) (test : TestRead) → IsOpen form group
    → ((denied : Bool) → unit_written denied unit ≡ negated_if denied test) → IsClosed (closed_by form unit) (group_with group test)
closed_by_group form group unit test is written = record {
  alternatives = is.alternatives;
  last_alternative =
      let here : negated_if group.negated test ≡ unit_written false (denied_unit form.nots unit) =
      sym (written group.negated) ∙ ap (λ denied. unit_written denied unit) is.negated ∙ sym (denied_written form.nots unit false) in
      ap Some (ap (λ last_alternative. and_with last_alternative (negated_if group.negated test)) is.last_alternative ∙ part_with_written form.last_alternative (denied_unit form.nots unit) _ here);
  negated = refl;
}

pub unit_closes : (tokens : List RuleToken) (unit : UnitForm) (test : TestRead) (reading made : Reading) → InOpen tokens (unit_tokens unit) reading
    → ((denied : Bool) → unit_written denied unit ≡ negated_if denied test) → made.around ≡ reading.around → made.group ≡ group_with reading.group test
    → InClosed tokens made
unit_closes tokens unit test reading made begun written around group = record {
  around = begun.around;
  form = closed_by begun.form unit;
  tokens_are = begun.tokens_are ∙ append_assoc (around_tokens begun.around) (open_tokens begun.form) (unit_tokens unit)
      ∙ ap (λ more. around_tokens begun.around ++ more) (closed_by_tokens begun.form unit);
  around_are = subst (AreOpen begun.around) (sym around) begun.around_are;
  group_is = subst (IsClosed (closed_by begun.form unit)) (sym group) (closed_by_group begun.form reading.group unit test begun.group_is written);
}

-- One more token of a unit.
pub grown : (tokens unit : List RuleToken) (token : RuleToken) (reading made : Reading) → InOpen tokens unit reading → made.around ≡ reading.around → made.group ≡ reading.group
    → InOpen (tokens ++ (token ∷ [])) (unit ++ (token ∷ [])) made
grown tokens unit token reading made begun around group = record {
  around = begun.around;
  form = begun.form;
  tokens_are = ap (λ more. more ++ (token ∷ [])) begun.tokens_are ∙ append_assoc (around_tokens begun.around ++ open_tokens begun.form) unit (token ∷ []);
  around_are = subst (AreOpen begun.around) (sym around) begun.around_are;
  group_is = subst (IsOpen begun.form) (sym group) begun.group_is;
}

pub in_moved : (tokens unit : List RuleToken) (reading made : Reading) → InOpen tokens unit reading → made.around ≡ reading.around → made.group ≡ reading.group → InOpen tokens unit made
in_moved tokens unit reading made begun around group = record {
  around = begun.around;
  form = begun.form;
  tokens_are = begun.tokens_are;
  around_are = subst (AreOpen begun.around) (sym around) begun.around_are;
  group_is = subst (IsOpen begun.form) (sym group) begun.group_is;
}

pub renamed : (tokens unit other : List RuleToken) (reading : Reading) → unit ≡ other → InOpen tokens unit reading → InOpen tokens other reading
renamed tokens unit other reading e begun = subst (λ u. InOpen tokens u reading) e begun

-- A token with which a unit ends.
pub unit_read : (tokens : List RuleToken) (unit : UnitForm) (test : TestRead) (reading next : Reading) → with_unit reading test ≡ Ok next → InOpen tokens (unit_tokens unit) reading
    → ((denied : Bool) → unit_written denied unit ≡ negated_if denied test) → reading.spans ≡ [] → Explained tokens next
unfolding with_unit
unit_read tokens unit test reading next e begun written none =
    let made : Reading = record reading { comparisons = reading.comparisons + 1; group = group_with reading.group test; awaited = awaits_operator } in
    made_by tokens made next (Ok made) (unless_ok (nat_le 4096 reading.comparisons) TooLong (Ok made) next e) refl
    (unit_closes tokens unit test reading made begun written refl refl, none)

-- ---- the first token of a unit

-- One more `not`.
pub one_more_not : (tokens : List RuleToken) (reading : Reading) → InOpen tokens [] reading
    → InOpen (tokens ++ (not_word ∷ [])) [] (record reading { group = group_after_not reading.group; awaited = awaits_unit })
one_more_not tokens reading begun =
    let form = begun.form in
    let before = around_tokens begun.around in
    record {
      around = begun.around;
      form = record form { nots = suc form.nots };
      tokens_are = ap (λ more. more ++ (not_word ∷ [])) (begun.tokens_are ∙ append-nil (before ++ open_tokens form))
          ∙ append_assoc before (open_tokens form) (not_word ∷ [])
          ∙ ap (λ more. before ++ more)
          (append_assoc (alternatives_tokens form.alternatives) (last_tokens form.last_alternative ++ nots_tokens form.nots) (not_word ∷ [])
          ∙ ap (λ more. alternatives_tokens form.alternatives ++ more)
          (append_assoc (last_tokens form.last_alternative) (nots_tokens form.nots) (not_word ∷ []) ∙ ap (λ more. last_tokens form.last_alternative ++ more) (one_not_more form.nots)))
          ∙ sym (append-nil (before ++ open_tokens (record form { nots = suc form.nots })));
      around_are = begun.around_are;
      group_is = record {
        alternatives = begun.group_is.alternatives;
        last_alternative = begun.group_is.last_alternative;
        negated = ap not begun.group_is.negated ∙ not_denied form.nots false;
      };
    }

-- A parenthesis opens.
pub one_more_around : (tokens : List RuleToken) (reading made : Reading) → InOpen tokens [] reading → made.around ≡ reading.group ∷ reading.around → made.group ≡ no_group
    → InOpen (tokens ++ (open_parenthesis ∷ [])) [] made
one_more_around tokens reading made begun around group =
    let before = around_tokens begun.around in
    record {
      around = begun.form ∷ begun.around;
      form = no_form;
      tokens_are = ap (λ more. more ++ (open_parenthesis ∷ [])) (begun.tokens_are ∙ append-nil (before ++ open_tokens begun.form))
          ∙ append_assoc before (open_tokens begun.form) (open_parenthesis ∷ [])
          ∙ sym (append-nil (before ++ (open_tokens begun.form ++ (open_parenthesis ∷ []))))
          ∙ sym (append-nil ((before ++ (open_tokens begun.form ++ (open_parenthesis ∷ []))) ++ []));
      around_are = subst (AreOpen (begun.form ∷ begun.around)) (sym around) (begun.group_is, begun.around_are);
      group_is = subst (IsOpen no_form) (sym group) (record { alternatives = refl; last_alternative = refl; negated = refl });
    }

pub path_begins : (context : LineContext) (most : ℕ) (tokens : List RuleToken) (reading next : Reading) (token : RuleToken)
    → found_then (number_within most token) (λ path. Ok (record reading { awaited = awaits_slash path })) ≡ Ok next
    → InOpen tokens [] reading → reading.spans ≡ [] → Explained (tokens ++ (token ∷ [])) next
path_begins context most tokens reading next token e begun none =
    let found = then_ok (number_within most token) (λ path. Ok (record reading { awaited = awaits_slash path })) next e in
    let path = found.0 in
    let made : Reading = record reading { awaited = awaits_slash path } in
    made_by (tokens ++ (token ∷ [])) made next (Ok made) found.2 refl (
      renamed (tokens ++ (token ∷ [])) (token ∷ []) (number_word path ∷ []) made (ap (λ t. t ∷ []) (number_ok most token path found.1))
          (grown tokens [] token reading made begun refl refl),
      none,
    )

pub unit_begins : (context : LineContext) (column : ℕ) (tokens : List RuleToken) (reading next : Reading) (token : RuleToken)
    → read_unit context column reading token ≡ Ok next → InOpen tokens [] reading → reading.spans ≡ [] → Explained (tokens ++ (token ∷ [])) next
unfolding read_unit with_open_parenthesis
unit_begins context column tokens reading next not_word e begun none =
    let made : Reading = record reading { group = group_after_not reading.group; awaited = awaits_unit } in
    made_by (tokens ++ (not_word ∷ [])) made next (Ok made) e refl (one_more_not tokens reading begun, none)
unit_begins context column tokens reading next open_parenthesis e begun none =
    let made : Reading = record reading {
      around = reading.group ∷ reading.around;
      outermost = (if nat_lt 0 (length reading.around) then reading.outermost else column);
      group = no_group;
      awaited = awaits_unit;
    } in
    made_by (tokens ++ (open_parenthesis ∷ [])) made next (Ok made) (unless_ok (nat_le 64 (context.blocks + length reading.around)) TooDeep (Ok made) next e) refl
    (one_more_around tokens reading made begun refl refl, none)
unit_begins context column tokens reading next (test_word test) e begun none =
    unit_read (tokens ++ (test_word test ∷ [])) (word_unit test) test reading next e (grown tokens [] (test_word test) reading reading begun refl refl) (λ denied. refl) none
unit_begins context column tokens reading next (field_word name) e begun none =
    let found = then_ok (header_read context.side name) (λ field. Ok (record reading { awaited = awaits_relation (subject_of field) })) next e in
    let field = found.0 in
    let made : Reading = record reading { awaited = awaits_relation (subject_of field) } in
    made_by (tokens ++ (field_word name ∷ [])) made next (Ok made) found.2 refl (
      refl,
      renamed (tokens ++ (field_word name ∷ [])) (field_word name ∷ []) (subject_tokens (subject_of field)) made
          (header_ok context.side name field found.1 ∙ sym (append-nil (field_tokens field))) (grown tokens [] (field_word name) reading made begun refl refl),
      none,
    )
unit_begins context column tokens reading next (size_word size) e begun none =
    let made : Reading = record reading { awaited = awaits_offset size } in
    made_by (tokens ++ (size_word size ∷ [])) made next (Ok made) e refl (grown tokens [] (size_word size) reading made begun refl refl, none)
unit_begins context column tokens reading next token e begun none =
    path_begins context (most_of_field context.side vpi_field) tokens reading next token e begun none
