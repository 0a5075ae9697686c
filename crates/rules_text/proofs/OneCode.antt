-- Each text has one code: what the lines of its rules become differs only in places of memory.
use Rattle.std.proofs.Common.{◌≡◌, ℕ, ◌+◌, ◌≤◌, ◌<◌, Bool, true, false, ◌||◌, nat_lt, List, [], ◌∷◌, map, Option, Some, None, Result, Ok, refl, sym, ap, subst, ◌∙◌, arith}
use Rattle.std.proofs.lemmas.Bool.{ltb-true, ltb-false}
use Rattle.std.proofs.lemmas.Bool.Decides.{nat_tests}
use Rattle.bpf_code.specs.declared.instr.Instr.{Instr}
use Rattle.bpf_code.specs.declared.instr.Size.{Size}
use Rattle.bpf_code.specs.declared.instr.Size.TheVariants.{Word}
use Rattle.rules_cells.specs.PlainOf.{ArePlainLines, ArePlainOf, IsAmongOf, IsCompareOf, IsPlainLine, IsPlainOf, at_of, most_of, placed_mask, placed_span, size_of, some_spans, span_below, span_of_one, span_up_to, unit_of}
use Rattle.rules_cells.specs.declared.field.Field.{Field}
use Rattle.rules_cells.specs.declared.field.Field.TheVariants.{Gfc, Vpi, Vci, Pti, Clp, Octets}
use Rattle.rules_cells.specs.declared.relation.Relation.{Relation}
use Rattle.rules_cells.specs.declared.relation.Relation.TheVariants.{Equal, Unequal, Less, AtMost, Greater, AtLeast, In}
use Rattle.rules_cells.specs.declared.rules.RuleLine.{RuleLine}
use Rattle.rules_cells.specs.declared.rules.RuleLine.TheVariants.{Rule, Block, End}
use Rattle.rules_cells.specs.declared.test.Test.{Test, Row_of-Test, end_of-Test, more_of-Test}
use Rattle.rules_cells.specs.declared.test.Test as asked
use Rattle.rules_code.specs.Bounds.{IsNotOf}
use Rattle.rules_code.specs.LineCode.{lines_code}
use Rattle.rules_code.specs.Order.{AreApart, IsOrderOf}
use Rattle.rules_code.specs.PlainTests.{is_among, is_in}
use Rattle.rules_code.specs.declared.lines.Line.{Line}
use Rattle.rules_code.specs.declared.lines.Line.TheVariants as line
use Rattle.rules_code.specs.declared.packet_part.Part.{Part}
use Rattle.rules_code.specs.declared.packet_part.Span.{Span}
use Rattle.rules_code.specs.declared.plain_test.PlainTest.{PlainTest}
use Rattle.rules_code.specs.declared.plain_test.PlainTest as plain
use Rattle.rules_code.proofs.Bare.{Bare, BareLine, all_of_bare, any_bare, bare, bare_all_of, bare_always, bare_any, bare_block, bare_comparison, bare_end, bare_not, bare_rule, bares, comparison_bare, line_bare, part_same, same_code}
use Rattle.upc_cell.specs.Side.{last_vpi}
use Rattle.upc_cell.specs.declared.side.Side.{Side}
use Rattle.rules_text.specs.CodeOfText.{IsCodeOfText}
use Rattle.rules_text.specs.RulesRead.{FieldRead, gfc_field, vpi_field, vci_field, pti_field, clp_field, octets_field, RelationRead, compared, listed, TestRead, TestsRead, any_cell, f5_cell, user_cell, comparing, negation, conjunction, disjunction, no_tests, more_tests, LineRead, rule_line, block_line, end_line, RulesRead, field_read, line_read, relation_read, rules_read, test_read, tests_read}
use Rattle.rules_text.specs.declared.lexer.Sign.TheVariants.{Equal as equal_sign, Unequal as unequal_sign, Less as less_sign, AtMost as at_most_sign, Greater as greater_sign, AtLeast as at_least_sign}
use Rattle.rules_text.specs.TextOfRules.{rules_in}
use Rattle.rules_text.specs.declared.fault.RuleFault.{RuleFault}
use Rattle.rules_text.proofs.Values.{among_last}

-- ---- spans in order are determined by their numbers

false_of : (b : Bool) → (b ≡ true → ⊥) → b ≡ false
false_of true h = absurd (h refl)
false_of false h = refl

from_in : (span : Span) (n : ℕ) → is_in span n ≡ true → span.low ≤ n
from_in span n h = grind (arith, nat_tests)

to_in : (span : Span) (n : ℕ) → is_in span n ≡ true → n ≤ span.high
to_in span n h = grind (arith, nat_tests)

is_inside : (span : Span) (n : ℕ) → span.low ≤ n → n ≤ span.high → is_in span n ≡ true
is_inside span n from to = grind (arith, nat_tests)

or_true : (a b : Bool) → a ≡ true → (a || b) ≡ true
or_true a b e = ap (λ (c : Bool). c || b) e

above_by : (b : Bool) (span next : Span) (more : List Span) (n : ℕ) → (AreApart (next ∷ more) → is_among more n ≡ true → next.high + 1 < n)
    → AreApart (span ∷ next ∷ more) → is_in next n ≡ b → (b || is_among more n) ≡ true → span.high + 1 < n
above_by true span next more n each apart e h =
    let from = from_in next n e in
    let before : span.high + 1 < next.low = apart.1 in
    omega (arith, from, before)
above_by false span next more n each apart e h =
    let later = each apart.2 h in
    let before : span.high + 1 < next.low = apart.1 in
    let some : next.low ≤ next.high = apart.2.0 in
    omega (arith, later, before, some)

above : (span : Span) (more : List Span) (n : ℕ) → AreApart (span ∷ more) → is_among more n ≡ true → span.high + 1 < n
above span [] n apart h = absurd (cc)
above span (next ∷ more) n apart h = above_by (is_in next n) span next more n (λ apart h. above next more n apart h) apart refl h

beyond : (span : Span) (more : List Span) (n : ℕ) → AreApart (span ∷ more) → n ≤ span.high → is_among more n ≡ false
beyond span more n apart le =
    false_of (is_among more n) (λ h.
    let later = above span more n apart h in
    omega (arith, later, le))

among_by : (b : Bool) (span : Span) (more : List Span) (n : ℕ) → AreApart (span ∷ more) → is_in span n ≡ b → (b || is_among more n) ≡ true → span.low ≤ n
among_by true span more n apart e h = from_in span n e
among_by false span more n apart e h =
    let later = above span more n apart h in
    let some : span.low ≤ span.high = apart.0 in
    omega (arith, later, some)

among_from : (span : Span) (more : List Span) (n : ℕ) → AreApart (span ∷ more) → is_among (span ∷ more) n ≡ true → span.low ≤ n
among_from span more n apart h = among_by (is_in span n) span more n apart refl h

near_by : (b : Bool) (span : Span) (more : List Span) (n : ℕ) → AreApart (span ∷ more) → is_in span n ≡ b → (b || is_among more n) ≡ true → n ≤ span.high + 1 → n ≤ span.high
near_by true span more n apart e h near = to_in span n e
near_by false span more n apart e h near =
    let later = above span more n apart h in
    omega (arith, later, near)

among_near : (span : Span) (more : List Span) (n : ℕ) → AreApart (span ∷ more) → is_among (span ∷ more) n ≡ true → n ≤ span.high + 1 → n ≤ span.high
among_near span more n apart h near = near_by (is_in span n) span more n apart refl h near

abbrev HaveSame : List Span → List Span → Type 0
HaveSame spans others = (n : ℕ) → is_among spans n ≡ is_among others n

low_first : (one other : Span) (more others : List Span) → AreApart (one ∷ more) → AreApart (other ∷ others) → HaveSame (one ∷ more) (other ∷ others) → other.low ≤ one.low
low_first one other more others apart apart_too same =
    let some : one.low ≤ one.high = apart.0 in
    let least : one.low ≤ one.low = omega arith in
    among_from other others one.low apart_too (sym (same one.low) ∙ or_true (is_in one one.low) (is_among more one.low) (is_inside one one.low least some))

high_by : (b : Bool) (one other : Span) (more others : List Span) → nat_lt one.high other.high ≡ b → one.low ≡ other.low → AreApart (one ∷ more) → AreApart (other ∷ others)
    → HaveSame (one ∷ more) (other ∷ others) → other.high ≤ one.high
high_by true one other more others e low apart apart_too same =
    let lt = ltb-true one.high other.high e in
    let some : one.low ≤ one.high = apart.0 in
    let from : other.low ≤ one.high + 1 = omega (arith, low, some) in
    let to : one.high + 1 ≤ other.high = omega (arith, lt) in
    let near : one.high + 1 ≤ one.high + 1 = omega arith in
    let within = among_near one more (one.high + 1) apart
    (same (one.high + 1) ∙ or_true (is_in other (one.high + 1)) (is_among others (one.high + 1)) (is_inside other (one.high + 1) from to)) near in
    absurd (omega (arith, within))
high_by false one other more others e low apart apart_too same = ltb-false one.high other.high e

high_first : (one other : Span) (more others : List Span) → one.low ≡ other.low → AreApart (one ∷ more) → AreApart (other ∷ others) → HaveSame (one ∷ more) (other ∷ others) → other.high ≤ one.high
high_first one other more others low apart apart_too same = high_by (nat_lt one.high other.high) one other more others refl low apart apart_too same

span_same : (one other : Span) → one.low ≡ other.low → one.high ≡ other.high → one ≡ other
span_same one other e f =
    let P : ℕ → ℕ → Span = λ low high. record { low = low; high = high } in
    ap (λ (low : ℕ). P low one.high) e ∙ ap (λ (high : ℕ). P other.low high) f

same_back : (one other : List Span) → HaveSame one other → HaveSame other one
same_back one other same n = sym (same n)

first_same : (one other : Span) (more others : List Span) → AreApart (one ∷ more) → AreApart (other ∷ others) → HaveSame (one ∷ more) (other ∷ others) → one ≡ other
first_same one other more others apart apart_too same =
    let back = same_back (one ∷ more) (other ∷ others) same in
    let le = low_first one other more others apart apart_too same in
    let ge = low_first other one others more apart_too apart back in
    let low : one.low ≡ other.low = omega (arith, le, ge) in
    let most = high_first one other more others low apart apart_too same in
    let least = high_first other one others more (sym low) apart_too apart back in
    let high : one.high ≡ other.high = omega (arith, most, least) in
    span_same one other low high

rest_by : (b : Bool) (span : Span) (more others : List Span) (n : ℕ) → is_in span n ≡ b → AreApart (span ∷ more) → AreApart (span ∷ others)
    → (b || is_among more n) ≡ (b || is_among others n) → is_among more n ≡ is_among others n
rest_by true span more others n e apart apart_too same =
    let le = to_in span n e in
    beyond span more n apart le ∙ sym (beyond span others n apart_too le)
rest_by false span more others n e apart apart_too same = same

rest_same : (span : Span) (more others : List Span) → AreApart (span ∷ more) → AreApart (span ∷ others) → HaveSame (span ∷ more) (span ∷ others) → HaveSame more others
rest_same span more others apart apart_too same n = rest_by (is_in span n) span more others n refl apart apart_too (same n)

none_is : (span : Span) (more : List Span) → AreApart (span ∷ more) → HaveSame [] (span ∷ more) → ⊥
none_is span more apart same =
    let some : span.low ≤ span.high = apart.0 in
    let least : span.low ≤ span.low = omega arith in
    let in_it : is_among (span ∷ more) span.low ≡ true = or_true (is_in span span.low) (is_among more span.low) (is_inside span span.low least some) in
    let wrong : false ≡ true = same span.low ∙ in_it in
    absurd (cc)

one_order : (one other : List Span) → AreApart one → AreApart other → HaveSame one other → one ≡ other
one_order [] [] apart apart_too same = refl
one_order [] (other ∷ others) apart apart_too same = absurd (none_is other others apart_too same)
one_order (one ∷ more) [] apart apart_too same = absurd (none_is one more apart (same_back (one ∷ more) [] same))
one_order (one ∷ more) (other ∷ others) apart apart_too same =
    let e = first_same one other more others apart apart_too same in
    let moved : AreApart (other ∷ more) = subst (λ (s : Span). AreApart (s ∷ more)) e apart in
    let alike : HaveSame (other ∷ more) (other ∷ others) = subst (λ (s : Span). HaveSame (s ∷ more) (other ∷ others)) e same in
    ap (λ (s : Span). s ∷ more) e ∙ ap (λ (ss : List Span). other ∷ ss) (one_order more others apart.2 apart_too.2 (rest_same other more others moved apart_too alike))

-- ---- fields

-- Where a field is: the largest number that it can have, what its lowest bit counts, its octets.
record Placing : Type 0 where
  most : Option ℕ
  unit : ℕ
  size : Size
  at : ℕ

abbrev placing : Side → Field → Placing
placing side field = record { most = most_of side field; unit = unit_of field; size = size_of field; at = at_of field }

abbrev placing_read : Side → FieldRead → Placing
placing_read side gfc_field = record { most = Some 15; unit = 268435456; size = Word; at = 0 }
placing_read side vpi_field = record { most = Some (last_vpi side); unit = 1048576; size = Word; at = 0 }
placing_read side vci_field = record { most = Some 65535; unit = 16; size = Word; at = 0 }
placing_read side pti_field = record { most = Some 7; unit = 2; size = Word; at = 0 }
placing_read side clp_field = record { most = Some 1; unit = 1; size = Word; at = 0 }
placing_read side (octets_field size at) = record { most = None; unit = 1; size = size; at = at }

placing_same : (side : Side) (field : Field) → placing side field ≡ placing_read side (field_read field)
placing_same side Gfc = refl
placing_same side Vpi = refl
placing_same side Vci = refl
placing_same side Pti = refl
placing_same side Clp = refl
placing_same side (Octets octets) = refl

-- ---- comparisons

record IsBareAmong (where_it_is : Placing) (mask : Option ℕ) (spans : List Span) (b : Bare) : Type 0 where
  part : Part
  first : Span
  others : List Span
  size_is : part.size ≡ where_it_is.size
  at_is : part.at ≡ where_it_is.at
  mask_is : part.mask ≡ placed_mask where_it_is.most where_it_is.unit mask
  spans_are : first ∷ others ≡ map (placed_span where_it_is.most where_it_is.unit) spans
  compares : b ≡ bare_comparison part first others

first_is : (one other : Span) (more others : List Span) → one ∷ more ≡ other ∷ others → one ≡ other
first_is one other more others e = cc

others_are : (one other : Span) (more others : List Span) → one ∷ more ≡ other ∷ others → more ≡ others
others_are one other more others e = cc

one_among : (it : Placing) (mask : Option ℕ) (spans : List Span) (b c : Bare) → IsBareAmong it mask spans b → IsBareAmong it mask spans c → b ≡ c
one_among it mask spans b c x y =
    let same = part_same x.part y.part (x.size_is ∙ sym y.size_is) (x.at_is ∙ sym y.at_is) (x.mask_is ∙ sym y.mask_is) in
    let list : x.first ∷ x.others ≡ y.first ∷ y.others = x.spans_are ∙ sym y.spans_are in
    x.compares ∙ ap (λ (p : Part). bare_comparison p x.first x.others) same
    ∙ ap (λ (s : Span). bare_comparison y.part s x.others) (first_is x.first y.first x.others y.others list)
    ∙ ap (λ (ss : List Span). bare_comparison y.part y.first ss) (others_are x.first y.first x.others y.others list) ∙ sym y.compares

among_bare : (side : Side) (field : Field) (mask : Option ℕ) (spans : List Span) (test : PlainTest) → IsAmongOf side field mask spans test → IsBareAmong (placing side field) mask spans (bare test)
among_bare side field mask spans test is = record {
  part = is.part;
  first = is.first;
  others = is.others;
  size_is = is.part_is.size_is;
  at_is = is.part_is.at_is;
  mask_is = is.part_is.mask_is;
  spans_are = is.spans_are;
  compares = comparison_bare is.part is.first is.others test is.compares;
}

abbrev IsBareNot : (Bare → Type 0) → Bare → Type 0
IsBareNot Is b = (of : Bare) × Is of × (b ≡ bare_not of)

not_read : (Is : PlainTest → Type 0) (IsToo : Bare → Type 0) (test : PlainTest) → ((of : PlainTest) → Is of → IsToo (bare of)) → IsNotOf Is test → IsBareNot IsToo (bare test)
not_read Is IsToo plain.Always each is = absurd is
not_read Is IsToo (plain.Among part first others) each is = absurd is
not_read Is IsToo (plain.Not' p test) each is = (bare test, each test is, refl)
not_read Is IsToo (plain.AllOf' shape tests) each is = absurd is
not_read Is IsToo (plain.AnyOf' shape tests) each is = absurd is

abbrev IsBareRelation : Placing → Option ℕ → RelationRead → Bare → Type 0
IsBareRelation it mask (compared equal_sign k) b = IsBareAmong it mask (span_of_one k ∷ []) b
IsBareRelation it mask (compared unequal_sign k) b = IsBareNot (IsBareAmong it mask (span_of_one k ∷ [])) b
IsBareRelation it mask (compared less_sign k) b = IsBareAmong it mask (span_below k ∷ []) b
IsBareRelation it mask (compared at_most_sign k) b = IsBareAmong it mask (span_up_to k ∷ []) b
IsBareRelation it mask (compared greater_sign k) b = IsBareNot (IsBareAmong it mask (span_up_to k ∷ [])) b
IsBareRelation it mask (compared at_least_sign k) b = IsBareNot (IsBareAmong it mask (span_below k ∷ [])) b
IsBareRelation it mask (listed spans) b = (ordered : List Span) × IsOrderOf spans ordered × IsBareAmong it mask (some_spans ordered) b

not_among : (side : Side) (field : Field) (mask : Option ℕ) (spans : List Span) (test : PlainTest) → IsNotOf (IsAmongOf side field mask spans) test
    → IsBareNot (IsBareAmong (placing side field) mask spans) (bare test)
not_among side field mask spans test is =
    not_read (IsAmongOf side field mask spans) (IsBareAmong (placing side field) mask spans) test (λ of is. among_bare side field mask spans of is) is

relation_bare : (side : Side) (field : Field) (mask : Option ℕ) (relation : Relation) (test : PlainTest) → IsCompareOf side field mask relation test
    → IsBareRelation (placing side field) mask (relation_read relation) (bare test)
relation_bare side field mask (Equal k) test is = among_bare side field mask (span_of_one k ∷ []) test is
relation_bare side field mask (Unequal k) test is = not_among side field mask (span_of_one k ∷ []) test is
relation_bare side field mask (Less k) test is = among_bare side field mask (span_below k ∷ []) test is
relation_bare side field mask (AtMost k) test is = among_bare side field mask (span_up_to k ∷ []) test is
relation_bare side field mask (Greater k) test is = not_among side field mask (span_up_to k ∷ []) test is
relation_bare side field mask (AtLeast k) test is = not_among side field mask (span_below k ∷ []) test is
relation_bare side field mask (In last others) test is = (
  is.0,
  record { apart = is.1.apart; same = λ n. is.1.same n ∙ among_last last others.items n },
  among_bare side field mask (some_spans is.0) test is.2,
)

one_not : (Is : Bare → Type 0) (b c : Bare) → ((x y : Bare) → Is x → Is y → x ≡ y) → IsBareNot Is b → IsBareNot Is c → b ≡ c
one_not Is b c each x y = x.2 ∙ ap bare_not (each x.0 y.0 x.1 y.1) ∙ sym y.2

one_relation : (it : Placing) (mask : Option ℕ) (relation : RelationRead) (b c : Bare) → IsBareRelation it mask relation b → IsBareRelation it mask relation c → b ≡ c
one_relation it mask (compared equal_sign k) b c x y = one_among it mask (span_of_one k ∷ []) b c x y
one_relation it mask (compared unequal_sign k) b c x y = one_not (IsBareAmong it mask (span_of_one k ∷ [])) b c (one_among it mask (span_of_one k ∷ [])) x y
one_relation it mask (compared less_sign k) b c x y = one_among it mask (span_below k ∷ []) b c x y
one_relation it mask (compared at_most_sign k) b c x y = one_among it mask (span_up_to k ∷ []) b c x y
one_relation it mask (compared greater_sign k) b c x y = one_not (IsBareAmong it mask (span_up_to k ∷ [])) b c (one_among it mask (span_up_to k ∷ [])) x y
one_relation it mask (compared at_least_sign k) b c x y = one_not (IsBareAmong it mask (span_below k ∷ [])) b c (one_among it mask (span_below k ∷ [])) x y
one_relation it mask (listed spans) b c x y =
    let same : x.0 ≡ y.0 = one_order x.0 y.0 x.1.apart y.1.apart (λ n. x.1.same n ∙ sym (y.1.same n)) in
    one_among it mask (some_spans y.0) b c (subst (λ (ss : List Span). IsBareAmong it mask (some_spans ss) b) same x.2) y.2

-- ---- tests

module _ (side : Side) where
  abbrev mutual
    IsBareOf : TestRead → Bare → Type 0
    IsBareOf any_cell b = b ≡ bare_always
    IsBareOf f5_cell b = IsBareAmong (placing_read side pti_field) (Some 6) (span_of_one 4 ∷ []) b
    IsBareOf user_cell b = IsBareAmong (placing_read side pti_field) (Some 4) (span_of_one 0 ∷ []) b
    IsBareOf (comparing field mask relation) b = IsBareRelation (placing_read side field) mask relation b
    IsBareOf (negation test) b = IsBareNot (IsBareOf test) b
    IsBareOf (conjunction tests) b = (parts : List Bare) × AreBareOf tests parts × (b ≡ bare_all_of parts)
    IsBareOf (disjunction tests) b = (parts : List Bare) × AreBareOf tests parts × (b ≡ bare_any (bares parts))

    AreBareOf : TestsRead → List Bare → Type 0
    AreBareOf no_tests parts = parts ≡ []
    AreBareOf (more_tests test more) parts = (first : Bare) × (others : List Bare) × IsBareOf test first × AreBareOf more others × (parts ≡ first ∷ others)

  mutual
    test_bare : (test : Test) (made : PlainTest) → IsPlainOf side test made → IsBareOf (test_read test) (bare made)
    test_bare asked.Any made is = ap bare is
    test_bare asked.F5 made is = among_bare side Pti (Some 6) (span_of_one 4 ∷ []) made is
    test_bare asked.User made is = among_bare side Pti (Some 4) (span_of_one 0 ∷ []) made is
    test_bare (asked.Compare field mask relation) made is =
        subst (λ (it : Placing). IsBareRelation it mask (relation_read relation) (bare made)) (placing_same side field) (relation_bare side field mask relation made is)
    test_bare (asked.Not' p test) made is = not_read (IsPlainOf side test) (IsBareOf (test_read test)) made (λ of is. test_bare test of is) is
    test_bare (asked.AllOf' shape tests) made is = (map bare is.0, tests_bare tests is.0 is.1, all_of_bare is.0 made is.2)
    test_bare (asked.AnyOf' shape tests) made is = (
      map bare is.0,
      tests_bare tests is.0 is.1,
      ap bare is.2.test_is ∙ any_bare is.2.parts ∙ ap (λ (ts : List PlainTest). bare_any (bares (map bare ts))) is.2.parts_are,
    )

    tests_bare : {n : _} (row : Row_of-Test n) (made : List PlainTest) → ArePlainOf side row made → AreBareOf (tests_read row) (map bare made)
    tests_bare end_of-Test made are = ap (map bare) are
    tests_bare (more_of-Test test more) [] are = absurd are
    tests_bare (more_of-Test test more) (one ∷ made) are = (bare one, map bare made, test_bare test one are.0, tests_bare more made are.1, refl)

  mutual
    one_bare : (test : TestRead) (b c : Bare) → IsBareOf test b → IsBareOf test c → b ≡ c
    one_bare any_cell b c x y = x ∙ sym y
    one_bare f5_cell b c x y = one_among (placing_read side pti_field) (Some 6) (span_of_one 4 ∷ []) b c x y
    one_bare user_cell b c x y = one_among (placing_read side pti_field) (Some 4) (span_of_one 0 ∷ []) b c x y
    one_bare (comparing field mask relation) b c x y = one_relation (placing_read side field) mask relation b c x y
    one_bare (negation test) b c x y = x.2 ∙ ap bare_not (one_bare test x.0 y.0 x.1 y.1) ∙ sym y.2
    one_bare (conjunction tests) b c x y = x.2 ∙ ap bare_all_of (one_row tests x.0 y.0 x.1 y.1) ∙ sym y.2
    one_bare (disjunction tests) b c x y = x.2 ∙ ap (λ (bs : List Bare). bare_any (bares bs)) (one_row tests x.0 y.0 x.1 y.1) ∙ sym y.2

    one_row : (tests : TestsRead) (bs cs : List Bare) → AreBareOf tests bs → AreBareOf tests cs → bs ≡ cs
    one_row no_tests bs cs x y = x ∙ sym y
    one_row (more_tests test more) bs cs x y =
        x.4 ∙ ap (λ (b : Bare). b ∷ x.1) (one_bare test x.0 y.0 x.2 y.2) ∙ ap (λ (bs : List Bare). y.0 ∷ bs) (one_row more x.1 y.1 x.3 y.3) ∙ sym y.4

  -- ---- lines

  abbrev IsBareLine : LineRead → BareLine → Type 0
  IsBareLine (rule_line test value) l = (b : Bare) × IsBareOf test b × (l ≡ bare_rule b value)
  IsBareLine (block_line test) l = (b : Bare) × IsBareOf test b × (l ≡ bare_block b)
  IsBareLine end_line l = l ≡ bare_end

  line_is : (of : RuleLine) (made : Line) → IsPlainLine side of made → IsBareLine (line_read of) (line_bare made)
  line_is (Rule test value) (line.Rule one other) is = (bare one, test_bare test one is.0, ap (λ (v : ℕ). bare_rule (bare one) v) is.1)
  line_is (Rule test value) (line.Block one) is = absurd is
  line_is (Rule test value) line.End is = absurd is
  line_is (Block test) (line.Rule one other) is = absurd is
  line_is (Block test) (line.Block one) is = (bare one, test_bare test one is, refl)
  line_is (Block test) line.End is = absurd is
  line_is End (line.Rule one other) is = absurd is
  line_is End (line.Block one) is = absurd is
  line_is End line.End is = refl

  one_line : (of : LineRead) (l m : BareLine) → IsBareLine of l → IsBareLine of m → l ≡ m
  one_line (rule_line test value) l m x y = x.2 ∙ ap (λ (b : Bare). bare_rule b value) (one_bare test x.0 y.0 x.1 y.1) ∙ sym y.2
  one_line (block_line test) l m x y = x.2 ∙ ap bare_block (one_bare test x.0 y.0 x.1 y.1) ∙ sym y.2
  one_line end_line l m x y = x ∙ sym y

abbrev AreBareLines : Side → List LineRead → List BareLine → Type 0
AreBareLines side [] ls = ls ≡ []
AreBareLines side (of ∷ more) ls = (first : BareLine) × (others : List BareLine) × IsBareLine side of first × AreBareLines side more others × (ls ≡ first ∷ others)

lines_are : (side : Side) (lines : List RuleLine) (made : List Line) → ArePlainLines side lines made → AreBareLines side (map line_read lines) (map line_bare made)
lines_are side [] [] are = refl
lines_are side [] (one ∷ made) are = absurd are
lines_are side (of ∷ lines) [] are = absurd are
lines_are side (of ∷ lines) (one ∷ made) are = (line_bare one, map line_bare made, line_is side of one are.0, lines_are side lines made are.1, refl)

one_lines : (side : Side) (lines : List LineRead) (ls ms : List BareLine) → AreBareLines side lines ls → AreBareLines side lines ms → ls ≡ ms
one_lines side [] ls ms x y = x ∙ sym y
one_lines side (of ∷ more) ls ms x y =
    x.4 ∙ ap (λ (l : BareLine). l ∷ x.1) (one_line side of x.0 y.0 x.2 y.2) ∙ ap (λ (ls : List BareLine). y.0 ∷ ls) (one_lines side more x.1 y.1 x.3 y.3) ∙ sym y.4

-- ---- texts

same_read : (one other : RulesRead) (found : Result RulesRead RuleFault) → found ≡ Ok one → found ≡ Ok other → one ≡ other
same_read one other found e f = cc

-- Each text has one code.
pub one_code : (octets : List ℕ) (code other : List Instr) → IsCodeOfText octets code → IsCodeOfText octets other → code ≡ other
one_code octets code other x y =
    let same : rules_read x.rules ≡ rules_read y.rules = same_read (rules_read x.rules) (rules_read y.rules) (rules_in octets) x.read y.read in
    let moved : AreBareLines y.rules.side (map line_read y.rules.lines.items) (map line_bare x.lines) =
    subst (λ (rules : RulesRead). AreBareLines rules.side rules.lines (map line_bare x.lines)) same (lines_are x.rules.side x.rules.lines.items x.lines x.plain) in
    let lines = one_lines y.rules.side (map line_read y.rules.lines.items) (map line_bare x.lines) (map line_bare y.lines) moved (lines_are y.rules.side y.rules.lines.items y.lines y.plain) in
    x.code_is ∙ ap (λ (n : ℕ). lines_code x.lines n) (ap (λ (rules : RulesRead). rules.otherwise) same) ∙ same_code x.lines y.lines y.rules.otherwise lines ∙ sym y.code_is
