-- A text of rules has one answer of `unused`, unless nothing is decided.
use Rattle.std.proofs.Common.{◌≡◌, ℕ, zero, suc, ◌<◌, true, if◌then◌else◌, List, [], ◌∷◌, ◌++◌, map, Option, Some, inl, inr, refl, sym, ap, subst, ◌∙◌, arith, slice_get}
use Rattle.std.specs.List.{All, Contains}
use Rattle.std.proofs.lemmas.List.Elements.{All-contains, All-map, All-head, All-tail}
use Rattle.rules_diagrams.specs.UnusedRules.{AreAscending, ArePlacesAscending, AreUnused, Decides, DecidesNone, HoldsOf, IsRuleAt, IsUnused}
use Rattle.rules_diagrams.specs.declared.unused.Unused.{Unused}
use Rattle.rules_cells.specs.Decisions.{decision_of, passed_after, passed_at}
use Rattle.rules_cells.specs.Fields.{IsCell}
use Rattle.rules_cells.specs.Tests.{is_met}
use Rattle.rules_cells.specs.declared.deciding.Decision.{Decision}
use Rattle.rules_cells.specs.declared.rules.RuleLine.{RuleLine}
use Rattle.rules_cells.specs.declared.rules.RuleLine.TheVariants.{Rule, Block, End}
use Rattle.rules_cells.specs.declared.rules.Rules.{Rules}
use Rattle.rules_cells.specs.declared.test.Test.{Test}
use Rattle.rules_text.specs.declared.place.RulePlace.{RulePlace}
use Rattle.rules_text.specs.RulesRead.{LineRead, RulesRead, TestRead, line_read, rule_line, rules_read, test_read}
use Rattle.rules_text.specs.TextOfRules.{PlacedRulesRead}
use Rattle.rules_text.specs.ValuesRead.{test_holds}
use Rattle.rules_text.proofs.Values.{test_same}
use Rattle.cmd_rules.specs.RulesAnswers.{most_rules_octets}
use Rattle.text_io.specs.Gathered.{gathered}
use Rattle.upc_cell.specs.declared.side.Side.{Side}
use Rattle.cmd_differ.specs.OneAnswer.{ATextHasOneAnswer, IsDecisive}
use Rattle.cmd_differ.specs.UnusedLaws.{IsRuleRead}
use Rattle.cmd_differ.specs.UnusedText.{IsSearched, PrintsSearch, PrintsUnused, unused_finding, unused_line, unused_lines, unused_text}
use Rattle.cmd_differ.specs.declared.finding.Finding.{Finding}
use Rattle.cmd_differ.proofs.NamedUnused.{rule_back, rule_from}
use Rattle.cmd_differ.proofs.OneAnswer.{decide_same, fault_or_found, fault_same, finds_same, undecided_not}
use Rattle.cmd_differ.proofs.SameLists.{IsAscendingBy, same_lists}

-- ---- lines that were read alike

same_head : (one other : LineRead) (more rest : List LineRead) → one ∷ more ≡ other ∷ rest → one ≡ other
same_head one other more rest e = cc

same_rest : (one other : LineRead) (more rest : List LineRead) → one ∷ more ≡ other ∷ rest → more ≡ rest
same_rest one other more rest e = cc

met_same : (side : Side) (one other : Test) (cell : List ℕ) → test_read one ≡ test_read other → is_met side one cell ≡ is_met side other cell
met_same side one other cell e = test_same side cell one ∙ (ap (λ (t : TestRead). test_holds side t cell) e ∙ sym (test_same side cell other))

same_rule_test : (one other : Test) (value also : ℕ) → rule_line (test_read one) value ≡ rule_line (test_read other) also → test_read one ≡ test_read other
same_rule_test one other value also e = cc

block_passes_same : (side : Side) (one other : Test) (passed : ℕ) (cell : List ℕ) → is_met side one cell ≡ is_met side other cell
    → passed_after side (Block one) passed cell ≡ passed_after side (Block other) passed cell
block_passes_same side one other zero cell e = ap (λ b. if b then 0 else 1) e
block_passes_same side one other (suc passed) cell e = refl

passes_alike : (side : Side) (one other : RuleLine) (passed : ℕ) (cell : List ℕ) → line_read one ≡ line_read other → passed_after side one passed cell ≡ passed_after side other passed cell
passes_alike side (Rule test value) (Rule other also) passed cell e = refl
passes_alike side (Rule test value) (Block other) passed cell e = absurd (cc)
passes_alike side (Rule test value) End passed cell e = absurd (cc)
passes_alike side (Block test) (Rule other also) passed cell e = absurd (cc)
passes_alike side (Block test) (Block other) passed cell e = let same : test_read test ≡ test_read other = cc in block_passes_same side test other passed cell (met_same side test other cell same)
passes_alike side (Block test) End passed cell e = absurd (cc)
passes_alike side End (Rule other also) passed cell e = absurd (cc)
passes_alike side End (Block other) passed cell e = absurd (cc)
passes_alike side End End passed cell e = refl

passed_alike : (side : Side) (lines others : List RuleLine) (passed place : ℕ) (cell : List ℕ) → map line_read lines ≡ map line_read others
    → passed_at side lines passed cell place ≡ passed_at side others passed cell place
passed_alike side lines others passed zero cell e = refl
passed_alike side [] [] passed (suc place) cell e = refl
passed_alike side [] (other ∷ rest) passed (suc place) cell e = absurd (cc)
passed_alike side (line ∷ more) [] passed (suc place) cell e = absurd (cc)
passed_alike side (line ∷ more) (other ∷ rest) passed (suc place) cell e =
    let heads = same_head (line_read line) (line_read other) (map line_read more) (map line_read rest) e in
    let rests = same_rest (line_read line) (line_read other) (map line_read more) (map line_read rest) e in
    passed_alike side more rest (passed_after side line passed cell) place cell rests
    ∙ ap (λ n. passed_at side rest n cell place) (passes_alike side line other passed cell heads)

same_at : (lines others : List RuleLine) (place : ℕ) (one other : RuleLine) → map line_read lines ≡ map line_read others → slice_get lines place ≡ Some one → slice_get others place ≡ Some other
    → line_read one ≡ line_read other
same_at [] others place one other e at also = absurd (cc)
same_at (line ∷ more) [] place one other e at also = absurd (cc)
same_at (line ∷ more) (next ∷ rest) zero one other e at also =
    let heads = same_head (line_read line) (line_read next) (map line_read more) (map line_read rest) e in
    let first : line ≡ one = cc in
    let second : next ≡ other = cc in
    ap line_read (sym first) ∙ (heads ∙ ap line_read second)
same_at (line ∷ more) (next ∷ rest) (suc place) one other e at also =
    same_at more rest place one other (same_rest (line_read line) (line_read next) (map line_read more) (map line_read rest) e) at also

-- ---- rules that were read alike

module _ (rules others : Rules) (same : rules_read rules ≡ rules_read others) where
  sides : rules.side ≡ others.side
  sides = ap (λ (r : RulesRead). r.side) same

  lines : map line_read rules.lines.items ≡ map line_read others.lines.items
  lines = ap (λ (r : RulesRead). r.lines) same

  rule_moved : (place : ℕ) → IsRuleAt rules place → IsRuleAt others place
  rule_moved place is = rule_back others place (subst (λ (r : RulesRead). IsRuleRead r place) same (rule_from rules place is))

  decides_moved : (place : ℕ) (cell : List ℕ) → Decides rules place cell → Decides others place cell
  decides_moved place cell e = ap (λ (d : Decision). d.line) (sym (decide_same rules others cell same)) ∙ e

  none_moved : (place : ℕ) → DecidesNone rules place → DecidesNone others place
  none_moved place none cell there e = none cell there (ap (λ (d : Decision). d.line) (decide_same rules others cell same) ∙ e)

  holds_moved : (place : ℕ) (cell : List ℕ) → HoldsOf rules place cell → HoldsOf others place cell
  holds_moved place cell of =
      let there = rule_moved place (of.0, of.1, of.2.0) in
      let read = same_at rules.lines.items others.lines.items place (Rule of.0 of.1) (Rule there.0 there.1) lines of.2.0 there.2 in
      let test = same_rule_test of.0 there.0 of.1 there.1 read in
      let passed : passed_at others.side others.lines.items 0 cell place ≡ 0 =
      subst (λ (s : Side). passed_at s others.lines.items 0 cell place ≡ 0) sides (sym (passed_alike rules.side rules.lines.items others.lines.items 0 place cell lines) ∙ of.2.1) in
      let met : is_met others.side there.0 cell ≡ true =
      subst (λ (s : Side). is_met s there.0 cell ≡ true) sides (sym (met_same rules.side of.0 there.0 cell test) ∙ of.3) in
      (there.0, there.1, (there.2, passed), met)

  taker_moved : (one other : Unused) → IsUnused rules one → IsUnused others other → one.place ≡ other.place → (taker : ℕ) → Contains one.takers.items taker → Contains other.takers.items taker
  taker_moved one other is also e taker there =
      let found = All-contains (λ taker. (cell : List ℕ) × IsCell cell × HoldsOf rules one.place cell × Decides rules taker cell) one.takers.items taker is.takers there in
      let holds : HoldsOf others other.place found.0 = subst (λ n. HoldsOf others n found.0) e (holds_moved one.place found.0 found.2) in
      let by = also.decided found.0 found.1 holds in
      let named : taker ≡ by.0 = one_line taker by.0 (decision_of others found.0).line (decides_moved taker found.0 found.3) by.2 in
      subst (λ n. Contains other.takers.items n) (sym named) by.1
    where
      one_line : (a b : ℕ) (line : Option ℕ) → line ≡ Some a → line ≡ Some b → a ≡ b
      one_line a b line e f = cc

  place_moved : (unused named : List Unused) → AreUnused rules unused → AreUnused others named → (place : ℕ) → Contains (map (λ (u : Unused). u.place) unused) place
      → Contains (map (λ (u : Unused). u.place) named) place
  place_moved unused named are also place there =
      let found = mapped unused place there in
      let is = All-contains (IsUnused rules) unused found.0 are.all found.1 in
      let rule : IsRuleAt others place = rule_moved place (subst (λ n. IsRuleAt rules n) found.2 is.is_rule) in
      let none : DecidesNone others place = none_moved place (subst (λ n. DecidesNone rules n) found.2 is.none) in
      let has = also.each place rule none in
      in_mapped named has.0 place has.1 has.2
    where
      mapped : (us : List Unused) (place : ℕ) → Contains (map (λ (u : Unused). u.place) us) place → (u : Unused) × Contains us u × (u.place ≡ place)
      mapped [] place there = absurd (omega (arith, there.1))
      mapped (u ∷ more) place (zero, lt, e) = (u, (0, omega arith, refl), e)
      mapped (u ∷ more) place (suc k, lt, e) = let rest = mapped more place (k, omega arith, e) in (rest.0, (suc rest.1.0, omega (arith, rest.1.1), rest.1.2), rest.2)

      in_mapped : (us : List Unused) (u : Unused) (place : ℕ) → Contains us u → u.place ≡ place → Contains (map (λ (u : Unused). u.place) us) place
      in_mapped [] u place there e = absurd (omega (arith, there.1))
      in_mapped (first ∷ more) u place (zero, lt, f) e = (0, omega arith, ap (λ (u : Unused). u.place) f ∙ e)
      in_mapped (first ∷ more) u place (suc k, lt, f) e = let rest = in_mapped more u place (k, omega arith, f) e in (suc rest.0, omega (arith, rest.1), rest.2)

-- ---- lists

ascending_ids : (places : List ℕ) → AreAscending places → IsAscendingBy (λ n. n) places
ascending_ids [] are = tt
ascending_ids (first ∷ more) are = (are.0, ascending_ids more are.1)

ascending_places : (unused : List Unused) → ArePlacesAscending unused → IsAscendingBy (λ n. n) (map (λ (u : Unused). u.place) unused)
ascending_places [] are = tt
ascending_places (first ∷ more) are = (All-map (λ n. first.place < n) (λ (u : Unused). u.place) more are.0, ascending_places more are.1)

takers_same : (rules others : Rules) → rules_read rules ≡ rules_read others → (one other : Unused) → IsUnused rules one → IsUnused others other → one.place ≡ other.place
    → one.takers.items ≡ other.takers.items
takers_same rules others same one other is also e =
    same_lists (λ n. n) one.takers.items other.takers.items (ascending_ids one.takers.items is.ascending) (ascending_ids other.takers.items also.ascending)
    (taker_moved rules others same one other is also e) (taker_moved others rules (sym same) other one also is (sym e))

lines_same : (begins : List RulePlace) (rules others : Rules) → rules_read rules ≡ rules_read others → (unused named : List Unused) → All (IsUnused rules) unused → All (IsUnused others) named
    → map (λ (u : Unused). u.place) unused ≡ map (λ (u : Unused). u.place) named
    → (unused_text begins unused ≡ unused_text begins named) × (unused_finding unused ≡ unused_finding named) × (unused_lines begins unused ≡ unused_lines begins named)
lines_same begins rules others same [] [] all also e = (refl, refl, refl)
lines_same begins rules others same [] (v ∷ more) all also e = absurd (cc)
lines_same begins rules others same (u ∷ more) [] all also e = absurd (cc)
lines_same begins rules others same (u ∷ more) (v ∷ rest) all also e =
    let first : u.place ≡ v.place = cc in
    let later : map (λ (w : Unused). w.place) more ≡ map (λ (w : Unused). w.place) rest = cc in
    let takers = takers_same rules others same u v (All-head (IsUnused rules) u more all) (All-head (IsUnused others) v rest also) first in
    let after = lines_same begins rules others same more rest (All-tail (IsUnused rules) u more all) (All-tail (IsUnused others) v rest also) later in
    let line : unused_line begins u.place u.takers.items ≡ unused_line begins v.place v.takers.items =
    ap (λ n. unused_line begins n u.takers.items) first ∙ ap (λ (ts : List ℕ). unused_line begins v.place ts) takers in
    let whole = ap (λ t. t ++ unused_lines begins more) line ∙ ap (λ t. unused_line begins v.place v.takers.items ++ t) after.2 in
    (whole, refl, whole)

searched_same : (placed_rules : PlacedRulesRead) (answer other : List ℕ) (finding also : Finding) → IsSearched placed_rules answer finding → IsSearched placed_rules other also → (answer ≡ other) × (finding ≡ also)
searched_same placed_rules answer other finding also one two =
    let same : rules_read one.rules ≡ rules_read two.rules = sym one.read ∙ two.read in
    let places = same_lists (λ n. n) (map (λ (u : Unused). u.place) one.unused) (map (λ (u : Unused). u.place) two.unused)
    (ascending_places one.unused one.are_unused.ascending) (ascending_places two.unused two.are_unused.ascending)
    (place_moved one.rules two.rules same one.unused two.unused one.are_unused two.are_unused)
    (place_moved two.rules one.rules (sym same) two.unused one.unused two.are_unused one.are_unused) in
    let all = lines_same placed_rules.begins one.rules two.rules same one.unused two.unused one.are_unused.all two.are_unused.all places in
    (one.prints ∙ (all.0 ∙ sym two.prints), one.finds ∙ (all.1 ∙ sym two.finds))

search_same : (placed_rules : PlacedRulesRead) (answer other : List ℕ) (finding also : Finding) → IsDecisive finding → IsDecisive also → PrintsSearch placed_rules answer finding
    → PrintsSearch placed_rules other also → (answer ≡ other) × (finding ≡ also)
search_same placed_rules answer other finding also said told (inl one) (inl two) = searched_same placed_rules answer other finding also one two
search_same placed_rules answer other finding also said told (inr one) two = undecided_not finding said one.1
search_same placed_rules answer other finding also said told (inl one) (inr two) = undecided_not also told two.1

found_same : (found : Option (List ℕ)) (answer other : List ℕ) (finding also : Finding) → IsDecisive finding → IsDecisive also → PrintsUnused found answer finding → PrintsUnused found other also
    → (answer ≡ other) × (finding ≡ also)
found_same found answer other finding also said told (inl one) (inl two) = (fault_same [] found answer other one.0 two.0, one.1 ∙ sym two.1)
found_same found answer other finding also said told (inl one) (inr two) = absurd (fault_or_found [] found answer two.0 one.0 two.1)
found_same found answer other finding also said told (inr one) (inl two) = absurd (fault_or_found [] found other one.0 two.0 one.1)
found_same found answer other finding also said told (inr (placed_rules, finds, one)) (inr (placed_rules', finds', two)) =
    let same = finds_same found placed_rules placed_rules' finds finds' in
    search_same placed_rules answer other finding also said told one (subst (λ (n : PlacedRulesRead). PrintsSearch n other also) (sym same) two)

pub unused_same : ATextHasOneAnswer
unused_same octets answer other finding also one two said told = found_same (gathered most_rules_octets octets) answer other finding also said told one two
