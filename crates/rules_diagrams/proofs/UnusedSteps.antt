-- Rules that decide no cell are found.
use Rattle.std.proofs.Common.{◌≡◌, ℕ, zero, suc, ◌+◌, ◌≤◌, ◌<◌, ◌&&◌, nat_le, Bool, true, false, List, [], ◌∷◌, ◌++◌, length, ◌⊎◌, inl, inr, Option, Some, None, refl, sym, ap, subst, ◌∙◌, arith, append-nil, slice_get}
use Rattle.std.specs.BTreeSet.{BTreeSet, contains, IsOrdered}
use Rattle.std.specs.List.{All, Contains}
use Rattle.std.specs.Option.{option_to_list}
use Rattle.std.specs.Ordering.{nat_cmp}
use Rattle.std.proofs.lemmas.Bool.{cases_lt}
use Rattle.std.proofs.lemmas.Bool.Decides.{nat_tests}
use Rattle.std.proofs.lemmas.List.Elements.{All-nil, All-push, All-weaker, All-head, All-tail, Contains-push, Contains-append_left}
use Rattle.rules_cells.specs.Decisions.{decision_of, IsEarlier, TheFirstRuleDecides}
use Rattle.rules_cells.specs.Fields.{IsCell}
use Rattle.rules_cells.specs.Tests.{is_met}
use Rattle.rules_cells.specs.declared.rules.RuleLine.{RuleLine}
use Rattle.rules_cells.specs.declared.rules.RuleLine.TheVariants.{Rule, Block}
use Rattle.rules_cells.specs.declared.rules.Rules.{Rules}
use Rattle.rules_cells.specs.declared.test.Test.{Test}
use Rattle.rules_diagrams.specs.CellNumbers.{octets_number}
use Rattle.rules_diagrams.specs.UnusedRules.{AreAscending, AreUnused, ArePlacesAscending, Decides, DecidesNone, HasPlace, HoldsOf, IsRuleAt, IsUnused}
use Rattle.rules_diagrams.specs.inner.Choices.{chosen, IsChoice}
use Rattle.rules_diagrams.specs.inner.Holding.{AreDeciders, AreTaken, AreUnusedBefore, IsFoundAt, IsSpared, passed_before}
use Rattle.rules_diagrams.specs.inner.Lines.{line_number, deciding_line}
use Rattle.rules_diagrams.specs.inner.Numbers.{AreGivenNumbers, places_of}
use Rattle.rules_diagrams.specs.inner.Spans.{truth}
use Rattle.rules_diagrams.specs.inner.Tells.{GivesNumber, Tells}
use Rattle.rules_diagrams.specs.inner.Values.{diagram_value, Keeps}
use Rattle.rules_diagrams.specs.declared.diagram.Diagram.{Diagram}
use Rattle.rules_diagrams.specs.declared.diagram.Diagram.TheVariants.{Leaf}
use Rattle.rules_diagrams.specs.declared.diagram.Node.{Node}
use Rattle.rules_diagrams.specs.declared.unused.Unused.{Unused}
use Rattle.rules_diagrams.proofs.NumberSets.{place_in, all_places, places_ascend}
use Rattle.rules_diagrams.proofs.Telling.{choice_gives}

-- ---- the lines that decide some cells

chosen_true : (b : Bool) (one : ℕ) → b ≡ true → chosen (truth b) one 0 ≡ one
chosen_true true one e = refl
chosen_true false one e = absurd (cc)

chosen_some : (b : Bool) (one place : ℕ) → chosen (truth b) one 0 ≡ suc place → (b ≡ true) × (one ≡ suc place)
chosen_some true one place e = (refl, e)
chosen_some false one place e = absurd (omega arith)

pub taken_are : (old new : List Node) (deciding held taken : Diagram) (numbers : BTreeSet ℕ) (places : List ℕ) (number : List ℕ → ℕ) (holds : List ℕ → Bool) → Keeps old new
    → IsChoice new held deciding (Leaf 0) taken → AreGivenNumbers new taken numbers → places ≡ places_of numbers.keys → IsOrdered nat_cmp numbers
    → GivesNumber old number deciding → Tells old holds held → AreTaken number holds places
taken_are old new deciding held taken numbers places number holds keeps is are same ordered gives tells =
    let zero_gives : GivesNumber old (λ cell. 0) (Leaf 0) = record { within = tt; value = λ cell there. refl } in
    let value = choice_gives old new held deciding (Leaf 0) taken (λ cell. truth (holds cell)) number (λ cell. 0) keeps tells gives zero_gives is in
    subst (λ (ps : List ℕ). AreTaken number holds ps) (sym same) (record {
      each = λ cell there h place e.
          let at : diagram_value new taken (octets_number cell) ≡ suc place = value.value cell there ∙ (chosen_true (holds cell) (number cell) h ∙ e) in
          place_in numbers.keys place (subst (λ n. contains nat_cmp numbers n ≡ true) at (are.each (octets_number cell)));
      only = all_places (λ place. (cell : List ℕ) × IsCell cell × (holds cell ≡ true) × (number cell ≡ suc place)) numbers.keys (λ place e.
          let found = are.only (suc place) e in
          let both = chosen_some (holds found.0) (number found.0) place (sym (value.value found.0 found.1) ∙ found.2) in
          (found.0, found.1, both.0, both.1));
      ascending = places_ascend numbers.keys ordered;
    })

pub deciders_are : (nodes : List Node) (rules : Rules) (deciding : Diagram) (numbers : BTreeSet ℕ) → GivesNumber nodes (deciding_line rules) deciding → AreGivenNumbers nodes deciding numbers
    → AreDeciders (deciding_line rules) numbers
deciders_are nodes rules deciding numbers gives are = record {
  each = λ cell there. subst (λ n. contains nat_cmp numbers n ≡ true) (gives.value cell there) (are.each (octets_number cell));
  only = λ n e. let found = are.only n e in (found.0, found.1, sym (gives.value found.0 found.1) ∙ found.2);
}

-- ---- one rule

line_of : (line : Option ℕ) (place : ℕ) → line_number line ≡ suc place → line ≡ Some place
line_of None place e = absurd (omega arith)
line_of (Some other) place e = let same : other ≡ place = omega arith in ap (λ n. Some n) same

word_number : (line : Option ℕ) (place : ℕ) → line ≡ Some place → line_number line ≡ suc place
word_number line place e = let next : place + 1 ≡ suc place = omega arith in ap line_number e ∙ next

same_rule : (test other : Test) (value also : ℕ) → Some (Rule test value) ≡ Some (Rule other also) → test ≡ other
same_rule test other value also e = cc

le_zero : (n : ℕ) → n ≡ 0 → nat_le n 0 ≡ true
le_zero n e = grind (arith, nat_tests)

zero_le : (n : ℕ) → nat_le n 0 ≡ true → n ≡ 0
zero_le n e = grind (arith, nat_tests)

and_both : (a b : Bool) → a ≡ true → b ≡ true → (a && b) ≡ true
and_both true b e f = f
and_both false b e f = absurd (cc)

and_parts : (a b : Bool) → (a && b) ≡ true → (a ≡ true) × (b ≡ true)
and_parts true b e = (refl, e)
and_parts false b e = absurd (cc)

module _ (law : TheFirstRuleDecides) (rules : Rules) (place value : ℕ) (test : Test) (at : slice_get rules.lines.items place ≡ Some (Rule test value)) where
  -- Whether the rule holds of a cell.
  abbrev pub holds : List ℕ → Bool
  holds cell = nat_le (passed_before rules place cell) 0 && is_met rules.side test cell

  holds_if : (cell : List ℕ) → HoldsOf rules place cell → holds cell ≡ true
  holds_if cell of =
      let same : of.0 ≡ test = same_rule of.0 test of.1 value (sym of.2.0 ∙ at) in
      and_both (nat_le (passed_before rules place cell) 0) (is_met rules.side test cell) (le_zero (passed_before rules place cell) of.2.1)
      (subst (λ (t : Test). is_met rules.side t cell ≡ true) same of.3)

  if_holds : (cell : List ℕ) → holds cell ≡ true → HoldsOf rules place cell
  if_holds cell h =
      let both = and_parts (nat_le (passed_before rules place cell) 0) (is_met rules.side test cell) h in
      (test, value, (at, zero_le (passed_before rules place cell) both.0), both.1)

  -- A cell of which the rule holds is decided by a rule, not by a later one.
  decided_by : (cell : List ℕ) → HoldsOf rules place cell → (taker : ℕ) × (Decides rules taker cell) × (taker ≤ place)
  decided_by cell of =
      let first = law rules cell in
      let cases : (line : Option ℕ) → (decision_of rules cell).line ≡ line → (taker : ℕ) × (Decides rules taker cell) × (taker ≤ place) = elim [
        | None ↦ λ e.
            let unmet : is_met rules.side of.0 cell ≡ false = first.first place of.1 of.0 of.2 (subst (λ (l : Option ℕ). IsEarlier place l) (sym e) tt) in
            absurd (bad (is_met rules.side of.0 cell) of.3 unmet)
        | Some taker ↦ λ e. (taker, e, at_most taker e of (cases_lt place taker))
      ] in
      cases (decision_of rules cell).line refl
    where
      bad : (b : Bool) → b ≡ true → b ≡ false → ⊥
      bad b e f = absurd (cc)

      at_most : (taker : ℕ) → Decides rules taker cell → HoldsOf rules place cell → (place < taker) ⊎ (taker ≤ place) → taker ≤ place
      at_most taker e of (inr le) = le
      at_most taker e of (inl lt) =
          let unmet : is_met rules.side of.0 cell ≡ false = (law rules cell).first place of.1 of.0 of.2 (subst (λ (l : Option ℕ). IsEarlier place l) (sym e) lt) in
          absurd (bad (is_met rules.side of.0 cell) of.3 unmet)

  pub unused_is : (deciders : BTreeSet ℕ) (takers : List ℕ) (unused : Unused) → unused.place ≡ place → unused.takers.items ≡ takers → AreDeciders (deciding_line rules) deciders
      → contains nat_cmp deciders (suc place) ≡ false → AreTaken (deciding_line rules) holds takers → IsUnused rules unused
  unused_is deciders takers unused is items are lacks taken =
      let none : DecidesNone rules place = λ cell there e.
      let number : deciding_line rules cell ≡ suc place = word_number (decision_of rules cell).line place e in
      let has : contains nat_cmp deciders (suc place) ≡ true = subst (λ n. contains nat_cmp deciders n ≡ true) number (are.each cell there) in
      absurd (cc) in
      let only = All-weaker (λ taker. (cell : List ℕ) × IsCell cell × (holds cell ≡ true) × (deciding_line rules cell ≡ suc taker))
      (λ taker. (cell : List ℕ) × IsCell cell × HoldsOf rules place cell × Decides rules taker cell)
      (λ taker found. (found.0, found.1, if_holds found.0 found.2, line_of (decision_of rules found.0).line taker found.3)) takers taken.only in
      let whole : IsUnused rules (record { place = place; takers = unused.takers }) = record {
        is_rule = (test, value, at);
        none = none;
        decided = λ cell there of.
            let by = decided_by cell of in
            (by.0, subst (λ (ts : List ℕ). Contains ts by.0) (sym items) (taken.each cell there (holds_if cell of) by.0 (word_number (decision_of rules cell).line by.0 by.1)), by.1);
        takers = subst (λ (ts : List ℕ). All (λ taker. (cell : List ℕ) × IsCell cell × HoldsOf rules place cell × Decides rules taker cell) ts) (sym items) only;
        before = subst (λ (ts : List ℕ). All (λ taker. taker < place) ts) (sym items)
            (All-weaker (λ taker. (cell : List ℕ) × IsCell cell × HoldsOf rules place cell × Decides rules taker cell) (λ taker. taker < place) (λ taker found.
            let by = decided_by found.0 found.2 in
            let same : taker ≡ by.0 = same_place taker by.0 (sym found.3 ∙ by.1) in
            not_last taker same by.2 (λ e. none found.0 found.1 (subst (λ n. Decides rules n found.0) e found.3))) takers only);
        ascending = subst (λ (ts : List ℕ). AreAscending ts) (sym items) taken.ascending;
      } in
      subst (λ n. IsUnused rules (record { place = n; takers = unused.takers })) (sym is) whole
    where
      same_place : (a b : ℕ) → Some a ≡ Some b → a ≡ b
      same_place a b e = cc

      not_last : (taker : ℕ) {by : ℕ} → taker ≡ by → by ≤ place → (taker ≡ place → ⊥) → taker < place
      not_last taker {by} e le apart = cases_of (cases_lt taker place)
        where
          cases_of : (taker < place) ⊎ (place ≤ taker) → taker < place
          cases_of (inl lt) = lt
          cases_of (inr ge) = absurd (apart (omega (arith, e, le, ge)))

-- A line that isn't a rule.
pub no_rule : (rules : Rules) (place : ℕ) (line : RuleLine) → slice_get rules.lines.items place ≡ Some line → ((test : Test) (value : ℕ) → line ≡ Rule test value → ⊥) → IsSpared rules place
no_rule rules place line at other rule =
    let same : Some line ≡ Some (Rule rule.0 rule.1) = sym at ∙ rule.2 in
    let bad : line ≡ Rule rule.0 rule.1 = cc in
    absurd (other rule.0 rule.1 bad)

block_is_none : (test other : Test) (value : ℕ) → Block test ≡ Rule other value → ⊥
block_is_none test other value e = absurd (cc)

pub block_spared : (rules : Rules) (place : ℕ) (test : Test) → slice_get rules.lines.items place ≡ Some (Block test) → IsSpared rules place
block_spared rules place test at = no_rule rules place (Block test) at (λ other value e. block_is_none test other value e)

-- ---- all rules

not_rule_after : (lines : List RuleLine) (place : ℕ) (line : RuleLine) → length lines ≤ place → slice_get lines place ≡ Some line → ⊥
not_rule_after [] place line le e = absurd (cc)
not_rule_after (first ∷ more) zero line le e = absurd (omega arith)
not_rule_after (first ∷ more) (suc place) line le e = not_rule_after more place line (omega arith) e

places_pushed : (unused : List Unused) (one : Unused) → ArePlacesAscending unused → All (λ (before : Unused). before.place < one.place) unused → ArePlacesAscending (unused ++ one ∷ [])
places_pushed [] one are below = (All-nil (λ (later : Unused). one.place < later.place), tt)
places_pushed (first ∷ more) one are below = (
  All-push (λ (later : Unused). first.place < later.place) more one are.0 (All-head (λ (before : Unused). before.place < one.place) first more below),
  places_pushed more one are.1 (All-tail (λ (before : Unused). before.place < one.place) first more below),
)

last_or_before : (place end : ℕ) → place < end + 1 → (place < end) ⊎ (place ≡ end)
last_or_before place end lt = cases_of (cases_lt place end)
  where
    cases_of : (place < end) ⊎ (end ≤ place) → (place < end) ⊎ (place ≡ end)
    cases_of (inl lt') = inl lt'
    cases_of (inr le) = inr (omega arith)

module _ (rules : Rules) (end : ℕ) (unused : List Unused) (are : AreUnusedBefore rules end unused) where
  below_next : All (λ (one : Unused). one.place < end + 1) unused
  below_next = All-weaker (λ (one : Unused). one.place < end) (λ (one : Unused). one.place < end + 1) (λ one lt. omega arith) unused are.before

  none_found : IsSpared rules end → AreUnusedBefore rules (end + 1) unused
  none_found spared = record {
    all = are.all;
    each = λ place lt rule none. by_place place rule none (last_or_before place end lt);
    before = below_next;
    ascending = are.ascending;
  }
    where
      by_place : (place : ℕ) → IsRuleAt rules place → DecidesNone rules place → (place < end) ⊎ (place ≡ end) → HasPlace unused place
      by_place place rule none (inl lt) = are.each place lt rule none
      by_place place rule none (inr e) =
          let found = spared (subst (λ n. IsRuleAt rules n) e rule) in
          absurd (none found.0 found.1 (subst (λ n. Decides rules n found.0) (sym e) found.2))

  one_found : (one : Unused) → one.place ≡ end → IsUnused rules one → AreUnusedBefore rules (end + 1) (unused ++ one ∷ [])
  one_found one is unused_is' = record {
    all = All-push (IsUnused rules) unused one are.all unused_is';
    each = λ place lt rule none. by_place place rule none (last_or_before place end lt);
    before = All-push (λ (u : Unused). u.place < end + 1) unused one below_next (omega arith);
    ascending = places_pushed unused one are.ascending (subst (λ n. All (λ (before : Unused). before.place < n) unused) (sym is) are.before);
  }
    where
      by_place : (place : ℕ) → IsRuleAt rules place → DecidesNone rules place → (place < end) ⊎ (place ≡ end) → HasPlace (unused ++ one ∷ []) place
      by_place place rule none (inl lt) = let had = are.each place lt rule none in (had.0, Contains-append_left unused (one ∷ []) had.0 had.1, had.2)
      by_place place rule none (inr e) = (one, Contains-push unused one, is ∙ sym e)

  pub found_more : (found : Option Unused) (more : List Unused) → IsFoundAt rules end found → more ≡ unused ++ option_to_list found → AreUnusedBefore rules (end + 1) more
  found_more None more spared is = subst (λ (us : List Unused). AreUnusedBefore rules (end + 1) us) (sym (is ∙ append-nil unused)) (none_found spared)
  found_more (Some one) more found is = subst (λ (us : List Unused). AreUnusedBefore rules (end + 1) us) (sym is) (one_found one found.0 found.1)

pub none_before : (rules : Rules) (unused : List Unused) → unused ≡ [] → AreUnusedBefore rules 0 unused
none_before rules unused e = subst (λ (us : List Unused). AreUnusedBefore rules 0 us) (sym e) (record {
  all = All-nil (IsUnused rules);
  each = λ place lt rule none. absurd (omega arith);
  before = All-nil (λ (one : Unused). one.place < 0);
  ascending = tt;
})

pub all_found : (rules : Rules) (end : ℕ) (unused : List Unused) → length rules.lines.items ≤ end → AreUnusedBefore rules end unused → AreUnused rules unused
all_found rules end unused le are = record {
  all = are.all;
  each = λ place rule none. by_place place rule none (cases_lt place end);
  ascending = are.ascending;
}
  where
    by_place : (place : ℕ) → IsRuleAt rules place → DecidesNone rules place → (place < end) ⊎ (end ≤ place) → HasPlace unused place
    by_place place rule none (inl lt) = are.each place lt rule none
    by_place place rule none (inr ge) = absurd (not_rule_after rules.lines.items place (Rule rule.0 rule.1) (omega arith) rule.2)
