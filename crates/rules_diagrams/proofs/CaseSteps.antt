-- Meetings of the diagrams of rules or programs are the cases of what they decide.
use Rattle.std.proofs.Common.{◌≡◌, ℕ, zero, suc, ◌<◌, ◌==◌, ◌&&◌, ◌||◌, ◌↔◌, Bool, true, false, IsTrue, List, [], ◌∷◌, map, length, get_or, ◌⊎◌, inl, inr, Option, Some, None, IfSome, refl, sym, ap, subst, ◌∙◌, arith}
use Rattle.std.proofs.lemmas.Bool.{eq-eqb}
use Rattle.std.proofs.lemmas.Bool.Decides.{nat_tests}
use Rattle.std.proofs.lemmas.List.Elements.{All-map, All-weaker, All-head, All-tail, All-contains}
use Rattle.std.specs.List.{All, Contains}
use Rattle.rules_cells.specs.Fields.{IsCell}
use Rattle.rules_cells.specs.Decisions.{decision_of, IsTried, IsFirstDecision, TheFirstRuleDecides}
use Rattle.rules_cells.specs.Tests.{is_met}
use Rattle.rules_cells.specs.declared.deciding.Decision.{Decision}
use Rattle.rules_cells.specs.declared.rules.RuleLine.{RuleLine}
use Rattle.rules_cells.specs.declared.rules.RuleLine.TheVariants.{Rule, Block, End}
use Rattle.rules_cells.specs.declared.rules.Rules.{Rules}
use Rattle.rules_cells.specs.declared.test.Test.{Test}
use Rattle.rules_diagrams.specs.CellNumbers.{octets_number}
use Rattle.rules_diagrams.specs.Cases.{IsCaseOf, AreCasesApart, AreInOrder, AreCases, AreCasesOf, GiveOneValue, GiveSame}
use Rattle.rules_diagrams.specs.ComparedCases.{SaysDecisions}
use Rattle.rules_diagrams.specs.inner.Lines.{line_number, deciding_line}
use Rattle.rules_diagrams.specs.inner.Meetings.{has_pair, IsLeast, ArePairsApart, AreMeetingsInOrder, AreMeetings}
use Rattle.rules_diagrams.specs.inner.Values.{diagram_value}
use Rattle.rules_diagrams.specs.inner.CaseLists.{IsShown, case_of, decision_with, decisions, have_one_value}
use Rattle.rules_diagrams.specs.declared.case.Case.{Case}
use Rattle.rules_diagrams.specs.declared.compared.Compared.{Compared}
use Rattle.rules_diagrams.specs.declared.compared.Compared.TheVariants.{Rules as OfRules, Program as OfProgram}
use Rattle.rules_diagrams.specs.declared.diagram.Diagram.{Diagram}
use Rattle.rules_diagrams.specs.declared.diagram.Node.{Node}
use Rattle.rules_diagrams.specs.declared.meeting.Both.{Both}
use Rattle.rules_diagrams.specs.declared.meeting.Meeting.{Meeting}

-- ---- decisions by their lines

same_line : (one other : Option ℕ) → line_number one ≡ line_number other → one ≡ other
same_line None None e = refl
same_line None (Some place) e = absurd (omega arith)
same_line (Some place) None e = absurd (omega arith)
same_line (Some place) (Some other) e = let same : place ≡ other = omega arith in ap (λ n. Some n) same

abbrev value_in : Option RuleLine → ℕ
value_in (Some (Rule test value)) = value
value_in (Some (Block test)) = 0
value_in (Some End) = 0
value_in None = 0

same_value : (rules : Rules) (cell other : List ℕ) (one two : Decision) → IsFirstDecision rules cell one → IsFirstDecision rules other two → one.line ≡ two.line → one.value ≡ two.value
same_value rules cell other one two first second e =
    let cases : (line : Option ℕ) → one.line ≡ line → one.value ≡ two.value = elim [
      | None ↦ λ f. first.others f ∙ sym (second.others (sym e ∙ f))
      | Some place ↦ λ f.
          let tried = subst (λ (l : Option ℕ). IfSome l (λ place. (test : Test) × IsTried rules.side rules.lines.items 0 cell place test one.value × (is_met rules.side test cell ≡ true))) f first.decides in
          let also = subst (λ (l : Option ℕ). IfSome l (λ place. (test : Test) × IsTried rules.side rules.lines.items 0 other place test two.value × (is_met rules.side test other ≡ true))) (sym e ∙ f) second.decides in
          ap value_in (sym tried.1.0 ∙ also.1.0)
    ] in
    cases one.line refl

same_decision : (one other : Decision) → one.line ≡ other.line → one.value ≡ other.value → one ≡ other
same_decision one other lines values =
    let by_line : Option ℕ → Decision = λ line. record { line = line; value = one.value } in
    let by_value : ℕ → Decision = λ value. record { line = other.line; value = value } in
    ap by_line lines ∙ ap by_value values

-- Cells that one line decides have one decision.
decided_same : TheFirstRuleDecides → (rules : Rules) (cell other : List ℕ) → deciding_line rules cell ≡ deciding_line rules other → decision_of rules cell ≡ decision_of rules other
decided_same law rules cell other e =
    let lines = same_line (decision_of rules cell).line (decision_of rules other).line e in
    same_decision (decision_of rules cell) (decision_of rules other) lines
    (same_value rules cell other (decision_of rules cell) (decision_of rules other) (law rules cell) (law rules other) lines)

-- ---- members

contains_later : {X : Type 0} (x first : X) (more : List X) → Contains more x → Contains (first ∷ more) x
contains_later x first more there = (suc there.0, omega (arith, there.1), there.2)

contains_first : {X : Type 0} (first : X) (more : List X) → Contains (first ∷ more) first
contains_first first more = (0, omega arith, refl)

contains_cases : {X : Type 0} (x first : X) (more : List X) (k : ℕ) → k < length (first ∷ more) → get_or (first ∷ more) k x ≡ x → (first ≡ x) ⊎ Contains more x
contains_cases x first more zero lt e = inl e
contains_cases x first more (suc k) lt e = inr (k, omega arith, e)

pair_in : (meetings : List Meeting) (one other : ℕ) → has_pair meetings one other ≡ true → (m : Meeting) × Contains meetings m × (m.one ≡ one) × (m.other ≡ other)
pair_in [] one other e = absurd (cc)
pair_in (first ∷ more) one other e =
    let cases : (b : Bool) → ((first.one == one) && (first.other == other)) ≡ b → (m : Meeting) × Contains (first ∷ more) m × (m.one ≡ one) × (m.other ≡ other) = elim [
      | true ↦ λ f.
          let p : first.one ≡ one = grind (arith, nat_tests) in
          let q : first.other ≡ other = grind (arith, nat_tests) in
          (first, contains_first first more, p, q)
      | false ↦ λ f.
          let there : has_pair more one other ≡ true = ap (λ c. c || has_pair more one other) (sym f) ∙ e in
          let found = pair_in more one other there in
          (found.0, contains_later found.0 first more found.1, found.2, found.3)
    ] in
    cases ((first.one == one) && (first.other == other)) refl

or_true : (a b : Bool) → b ≡ true → (a || b) ≡ true
or_true true b e = refl
or_true false b e = e

has_from : (meetings : List Meeting) (m : Meeting) (one other : ℕ) → Contains meetings m → m.one ≡ one → m.other ≡ other → has_pair meetings one other ≡ true
has_from [] m one other there p q = absurd (omega (arith, there.1))
has_from (first ∷ more) m one other there p q =
    elim (contains_cases m first more there.0 there.1 there.2) [
      | inl e ↦
          let a : (first.one == one) ≡ true = eq-eqb first.one one (ap (λ (x : Meeting). x.one) e ∙ p) in
          let b : (first.other == other) ≡ true = eq-eqb first.other other (ap (λ (x : Meeting). x.other) e ∙ q) in
          ap (λ c. (c && (first.other == other)) || has_pair more one other) a ∙ ap (λ c. c || has_pair more one other) b
      | inr later ↦ or_true ((first.one == one) && (first.other == other)) (has_pair more one other) (has_from more m one other later p q)
    ]

contains_map : {X Y : Type 0} (f : X → Y) (xs : List X) (x : X) → Contains xs x → Contains (map f xs) (f x)
contains_map f [] x there = absurd (omega (arith, there.1))
contains_map f (first ∷ more) x there =
    elim (contains_cases x first more there.0 there.1 there.2) [
      | inl e ↦ (0, omega arith, ap f e)
      | inr later ↦ contains_later (f x) (f first) (map f more) (contains_map f more x later)
    ]

mapped_from : {X Y : Type 0} (f : X → Y) (xs : List X) (y : Y) → Contains (map f xs) y → (x : X) × Contains xs x × (f x ≡ y)
mapped_from f [] y there = absurd (omega (arith, there.1))
mapped_from f (first ∷ more) y there =
    elim (contains_cases y (f first) (map f more) there.0 there.1 there.2) [
      | inl e ↦ (first, contains_first first more, e)
      | inr later ↦ let found = mapped_from f more y later in (found.0, contains_later found.0 first more found.1, found.2)
    ]

-- ---- cases

map_same : {X Y : Type 0} (is : X → Type 0) (f g : X → Y) → ((x : X) → is x → f x ≡ g x) → (xs : List X) → All is xs → map f xs ≡ map g xs
map_same is f g same [] all = refl
map_same is f g same (x ∷ more) all =
    let here = same x (All-head is x more all) in
    let rest = map_same is f g same more (All-tail is x more all) in
    ap (λ y. y ∷ map f more) here ∙ ap (λ ys. g x ∷ ys) rest

-- Two cells have one decision exactly if they have one number.
abbrev Agrees : (ℕ → ℕ) → (List ℕ → Decision) → Type 0
Agrees numbers said = (cell other : List ℕ) → IsCell cell → IsCell other → (numbers (octets_number cell) ≡ numbers (octets_number other)) ↔ (said cell ≡ said other)

-- The case of a meeting, by what is decided for its cell.
abbrev case_by : (List ℕ → Decision) → (List ℕ → Decision) → Meeting → Case
case_by was is meeting = record { old = was meeting.cell; new = is meeting.cell; cell = meeting.cell }

cases_ordered : (was is : List ℕ → Decision) (meetings : List Meeting) → AreMeetingsInOrder meetings → AreInOrder (map (case_by was is) meetings)
cases_ordered was is [] are = tt
cases_ordered was is (m ∷ more) are =
    (All-map (λ (later : Case). octets_number m.cell < octets_number later.cell) (case_by was is) more are.0, cases_ordered was is more are.1)

module _ (was is : List ℕ → Decision) (one other : ℕ → ℕ) (one_agrees : Agrees one was) (other_agrees : Agrees other is) where
  abbrev IsOne : Meeting → Type 0
  IsOne m = IsLeast one other m

  is_case : (m : Meeting) → IsOne m → IsCaseOf was is (case_by was is m)
  is_case m here = record {
    cell = here.cell;
    old_is = refl;
    new_is = refl;
    least = λ cell there p q. here.least (octets_number cell)
        ((one_agrees cell m.cell there here.cell).1 p ∙ here.one_is)
        ((other_agrees cell m.cell there here.cell).1 q ∙ here.other_is);
  }

  cases_apart : (meetings : List Meeting) → All IsOne meetings → ArePairsApart meetings → AreCasesApart (map (case_by was is) meetings)
  cases_apart [] all apart = tt
  cases_apart (m ∷ more) all apart =
      let here = All-head IsOne m more all in
      let rest = All-tail IsOne m more all in (
        λ case there p q.
            let from = mapped_from (case_by was is) more case there in
            let that = All-contains IsOne more from.0 rest from.1 in
            let old : was from.0.cell ≡ was m.cell = ap (λ (c : Case). c.old) from.2 ∙ p in
            let new : is from.0.cell ≡ is m.cell = ap (λ (c : Case). c.new) from.2 ∙ q in
            let first : from.0.one ≡ m.one = sym that.one_is ∙ ((one_agrees from.0.cell m.cell that.cell here.cell).1 old ∙ here.one_is) in
            let second : from.0.other ≡ m.other = sym that.other_is ∙ ((other_agrees from.0.cell m.cell that.cell here.cell).1 new ∙ here.other_is) in
            let found = has_from more from.0 m.one m.other from.1 first second in
            let none = apart.0 in
            absurd (cc),
        cases_apart more rest apart.1,
      )

  cases_by : (meetings : List Meeting) → All IsOne meetings → ((cell : ℕ) → has_pair meetings (one cell) (other cell) ≡ true) → ArePairsApart meetings → AreMeetingsInOrder meetings
      → AreCasesOf was is (map (case_by was is) meetings)
  cases_by meetings least each apart ordered = record {
    all = All-map (IsCaseOf was is) (case_by was is) meetings (All-weaker IsOne (λ (m : Meeting). IsCaseOf was is (case_by was is m)) is_case meetings least);
    each = λ cell there.
        let number = octets_number cell in
        let found = pair_in meetings (one number) (other number) (each number) in
        let here = All-contains IsOne meetings found.0 least found.1 in
        record {
          case = case_by was is found.0;
          is_among = contains_map (case_by was is) meetings found.0 found.1;
          old_is = (one_agrees found.0.cell cell here.cell there).0 (here.one_is ∙ found.2);
          new_is = (other_agrees found.0.cell cell here.cell there).0 (here.other_is ∙ found.3);
        };
    apart = cases_apart meetings least apart;
    ordered = cases_ordered was is meetings ordered;
  }

-- ---- rules and programs

abbrev value_decision : ℕ → Decision
value_decision number = record { line = None; value = number }

agrees : TheFirstRuleDecides → (nodes : List Node) (compared : Compared) (diagram : Diagram) → IsShown nodes compared diagram → Agrees (diagram_value nodes diagram) (decisions nodes diagram compared)
agrees law nodes (OfRules rules) diagram shown = λ cell other there also. (
  λ e. decided_same law rules.now cell other (sym (shown.value cell there) ∙ (e ∙ shown.value other also)),
  λ e. shown.value cell there ∙ (ap (λ (d : Decision). line_number d.line) e ∙ sym (shown.value other also)),
)
agrees law nodes (OfProgram code) diagram shown = λ cell other there also. (
  λ e. ap value_decision e,
  λ e. ap (λ (d : Decision). d.value) e,
)

pub says : (nodes : List Node) (compared : Compared) (diagram : Diagram) → IsShown nodes compared diagram → SaysDecisions compared (decisions nodes diagram compared)
says nodes (OfRules rules) diagram shown = λ cell there. refl
says nodes (OfProgram code) diagram shown = λ cell there. (refl, shown.value cell there)

decision_met : (nodes : List Node) (compared : Compared) (diagram : Diagram) (cell : List ℕ) (number : ℕ) → diagram_value nodes diagram (octets_number cell) ≡ number
    → decision_with compared cell number ≡ decisions nodes diagram compared cell
decision_met nodes (OfRules rules) diagram cell number e = refl
decision_met nodes (OfProgram code) diagram cell number e = ap value_decision (sym e)

pub cases_are : TheFirstRuleDecides → (old new : Compared) (one other : List Node) (both : Both) → IsShown one old both.one → IsShown other new both.other
    → (meetings : List Meeting) (cases : List Case) → cases ≡ map (case_of old new) meetings → AreMeetings one other both meetings
    → AreCasesOf (decisions one both.one old) (decisions other both.other new) cases
cases_are law old new one other both one_shown other_shown meetings cases e are =
    let was = decisions one both.one old in
    let is = decisions other both.other new in
    let first = diagram_value one both.one in
    let second = diagram_value other both.other in
    let same : map (case_of old new) meetings ≡ map (case_by was is) meetings =
    map_same (IsLeast first second) (case_of old new) (case_by was is) (λ m here.
    let by_old : Decision → Case = λ d. record { old = d; new = decision_with new m.cell m.other; cell = m.cell } in
    let by_new : Decision → Case = λ d. record { old = was m.cell; new = d; cell = m.cell } in
    ap by_old (decision_met one old both.one m.cell m.one here.one_is) ∙ ap by_new (decision_met other new both.other m.cell m.other here.other_is)) meetings are.least in
    subst (λ (cs : List Case). AreCasesOf was is cs) (sym (e ∙ same))
    (cases_by was is first second (agrees law one old both.one one_shown) (agrees law other new both.other other_shown) meetings are.least are.each are.apart are.ordered)

-- ---- one value

abbrev HasOneValue : Case → Type 0
HasOneValue case = case.old.value ≡ case.new.value

all_have : (cases : List Case) (case : Case) → have_one_value cases ≡ true → Contains cases case → HasOneValue case
all_have [] case e there = absurd (omega (arith, there.1))
all_have (first ∷ more) case e there =
    let rest : have_one_value more ≡ true = grind (arith, nat_tests) in
    let here : first.old.value ≡ first.new.value = grind (arith, nat_tests) in
    elim (contains_cases case first more there.0 there.1 there.2) [
      | inl same ↦ subst HasOneValue same here
      | inr later ↦ all_have more case rest later
    ]

have_all : (cases : List Case) → All HasOneValue cases → have_one_value cases ≡ true
have_all [] all = refl
have_all (first ∷ more) all =
    let here = eq-eqb first.old.value first.new.value (All-head HasOneValue first more all) in
    ap (λ b. b && have_one_value more) here ∙ have_all more (All-tail HasOneValue first more all)

pub same_values : TheFirstRuleDecides → (old new : Rules) (cases : List Case) (result : Bool) → result ≡ have_one_value cases → AreCases old new cases → IsTrue result ↔ GiveSame old new
same_values law old new cases result e are = (
  λ true_is cell there.
      let found = are.each cell there in
      let one : have_one_value cases ≡ true = sym e ∙ true_is in
      let same = all_have cases found.case one found.is_among in
      sym (law old cell).value
      ∙ (ap (λ (d : Decision). d.value) (sym found.old_is) ∙ (same ∙ (ap (λ (d : Decision). d.value) found.new_is ∙ (law new cell).value))),
  λ same.
      let all : All HasOneValue cases = All-weaker (IsCaseOf (decision_of old) (decision_of new)) HasOneValue (λ case is.
      ap (λ (d : Decision). d.value) (sym is.old_is)
      ∙ ((law old case.cell).value ∙ (same case.cell is.cell ∙ (sym (law new case.cell).value ∙ ap (λ (d : Decision). d.value) is.new_is)))) cases are.all in
      e ∙ have_all cases all,
)

pub same_decisions : (was is : List ℕ → Decision) (cases : List Case) (result : Bool) → result ≡ have_one_value cases → AreCasesOf was is cases → IsTrue result ↔ GiveOneValue was is
same_decisions was is cases result e are = (
  λ true_is cell there.
      let found = are.each cell there in
      let one : have_one_value cases ≡ true = sym e ∙ true_is in
      let same = all_have cases found.case one found.is_among in
      ap (λ (d : Decision). d.value) (sym found.old_is) ∙ (same ∙ ap (λ (d : Decision). d.value) found.new_is),
  λ same.
      let all : All HasOneValue cases = All-weaker (IsCaseOf was is) HasOneValue (λ case here.
      ap (λ (d : Decision). d.value) (sym here.old_is)
      ∙ (same case.cell here.cell ∙ ap (λ (d : Decision). d.value) here.new_is)) cases are.all in
      e ∙ have_all cases all,
)
