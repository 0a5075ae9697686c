-- A cell that differs has its line.
use Rattle.std.proofs.Common.{◌≡◌, ◌≢◌, ℕ, zero, suc, ◌<◌, ◌==◌, ◌||◌, not, nat_lt, Bool, true, false, if◌then◌else◌, List, [], ◌∷◌, ◌++◌, length, get_or, Some, None, Result, Ok, inl, inr, refl, sym, ap, subst, ◌∙◌, arith, append_assoc}
use Rattle.std.proofs.lemmas.Bool.{eqb-true}
use Rattle.std.proofs.lemmas.List.Elements.{All-contains}
use Rattle.rules_diagrams.specs.Cases.{IsCaseOf}
use Rattle.rules_diagrams.specs.declared.case.Case.{Case}
use Rattle.rules_cells.specs.declared.deciding.Decision.{Decision}
use Rattle.cmd_rules.specs.RulesAnswers.{most_rules_octets}
use Rattle.rules_text.specs.TextOfRules.{PlacedRulesRead, placed_rules_in}
use Rattle.rules_text.specs.declared.fault.RuleFault.{RuleFault}
use Rattle.text_io.specs.Gathered.{gathered}
use Rattle.cmd_programs.specs.Program.{is_program}
use Rattle.cmd_differ.specs.ChangeLines.{case_text, cases_text, change_text, is_listed}
use Rattle.cmd_differ.specs.DifferLaws.{EachCellThatDiffersHasItsLine, IsSideOf, TheSameGiveEachCellOneValue}
use Rattle.cmd_differ.specs.DifferText.{FindsSide, FindsText, IsDecided, IsDifferText, PrintsCases, same_text}
use Rattle.cmd_differ.specs.Findings.{IsConclusive}
use Rattle.cmd_differ.specs.ProgramText.{ReadsProgramText}
use Rattle.cmd_differ.specs.Sides.{SideDecides, SideRead, SidesAgree}
use Rattle.cmd_differ.specs.declared.finding.Finding.{Finding}
use Rattle.cmd_differ.specs.declared.finding.Finding.TheVariants.{Nothing, Something, Faulty, Undecided}
use Rattle.cmd_differ.specs.declared.kinds.TextKind.{TextKind}
use Rattle.cmd_differ.specs.declared.kinds.TextKind.TheVariants.{Rules as OfRules, Program as OfProgram}
use Rattle.cmd_differ.specs.declared.kinds.TextKinds.{TextKinds}
use Rattle.cmd_differ.proofs.OneAnswer.{side_same}
use Rattle.cmd_differ.proofs.SideSteps.{decides_once}

-- ---- the two texts

found_by : (b : Bool) (octets text : List ℕ) → (if b then None else Some octets) ≡ Some text → octets ≡ text
found_by true octets text e = cc
found_by false octets text e = cc

found_is : (octets text : List ℕ) → gathered most_rules_octets octets ≡ Some text → octets ≡ text
found_is octets text e = found_by (nat_lt most_rules_octets (length octets)) octets text e

one_read : (one other : PlacedRulesRead) (found : Result PlacedRulesRead RuleFault) → found ≡ Ok one → found ≡ Ok other → one ≡ other
one_read one other found e f = cc

-- The rules that were found are those of the text.
pub read_is : (octets : List ℕ) (one other : PlacedRulesRead) → FindsText (gathered most_rules_octets octets) one → placed_rules_in octets ≡ Ok other → one ≡ other
read_is octets one other finds read =
    let same = found_is octets finds.0 finds.1 in
    one_read one other (placed_rules_in octets) (subst (λ (text : List ℕ). placed_rules_in text ≡ Ok one) (sym same) finds.2) read

-- A side that was found is that of the text.
side_found : (kind : TextKind) (octets : List ℕ) (side : SideRead) → FindsSide kind (gathered most_rules_octets octets) side → FindsSide kind (Some octets) side
side_found OfRules octets side finds =
    let same = found_is octets finds.1.0 finds.1.1 in
    (finds.0, (octets, refl, subst (λ (text : List ℕ). placed_rules_in text ≡ Ok finds.0) (sym same) finds.1.2), finds.2)
side_found OfProgram octets side finds =
    let same = found_is octets finds.1.0 finds.1.1 in
    (finds.0, (octets, refl, subst (λ (text : List ℕ). ReadsProgramText text (is_program finds.0)) (sym same) finds.1.2), finds.2)

side_is : (kind : TextKind) (octets : List ℕ) (one other : SideRead) → FindsSide kind (gathered most_rules_octets octets) one → IsSideOf kind octets other → one ≡ other
side_is kind octets one other finds is = side_same kind (Some octets) one other (side_found kind octets one finds) is

-- A finding that says something is of a comparison.
pub said_not_faulty : {A : Type 0} (finding : Finding) → IsConclusive finding → finding ≡ Faulty → A
said_not_faulty finding said e = absurd (subst IsConclusive e said)

pub said_not_undecided : {A : Type 0} (finding : Finding) → IsConclusive finding → finding ≡ Undecided → A
said_not_undecided finding said e = absurd (subst IsConclusive e said)

decided_from : (kinds : TextKinds) (lines : Bool) (old octets answer : List ℕ) (was is : SideRead) (finding : Finding) → IsDifferText kinds lines old octets answer finding
    → IsConclusive finding → IsSideOf kinds.old old was → IsSideOf kinds.new octets is → IsDecided lines was is answer finding
decided_from kinds lines old octets answer was is finding (inl faulty) said old_is new_is = said_not_faulty finding said faulty.1
decided_from kinds lines old octets answer was is finding (inr (one, finds, inl faulty)) said old_is new_is = said_not_faulty finding said faulty.1
decided_from kinds lines old octets answer was is finding (inr (one, finds, inr (other, also, inr not_said))) said old_is new_is = said_not_undecided finding said not_said.1
decided_from kinds lines old octets answer was is finding (inr (one, finds, inr (other, also, inl decided))) said old_is new_is =
    subst (λ (w : SideRead). IsDecided lines w is answer finding) (side_is kinds.old old one was finds old_is)
    (subst (λ (i : SideRead). IsDecided lines one i answer finding) (side_is kinds.new octets other is also new_is) decided)

-- ---- texts that are the same

same_given : (lines : Bool) (was is : SideRead) (cases : List Case) (answer : List ℕ) → PrintsCases lines was is cases answer Nothing → SidesAgree was is
same_given lines was is cases answer (inl prints) = prints.0
same_given lines was is cases answer (inr prints) = let bad : Nothing ≡ Something = prints.2 in absurd (cc)

pub the_same_give_one : TheSameGiveEachCellOneValue
the_same_give_one kinds lines old octets answer was is text old_is new_is =
    let decided = decided_from kinds lines old octets answer was is Nothing text tt old_is new_is in
    same_given lines was is decided.cases answer decided.prints

-- ---- the line of a case

listed_by : (b : Bool) (text : List ℕ) → b ≡ true → (if b then text else []) ≡ text
listed_by true text e = refl
listed_by false text e = absurd (cc)

-- A case that has a line is among the lines.
in_cases : (lines : Bool) (was is : SideRead) (cases : List Case) (case : Case) (k : ℕ) → k < length cases → get_or cases k case ≡ case → is_listed lines was is case ≡ true
    → (before : List ℕ) × (after : List ℕ) × (cases_text lines was is cases ≡ before ++ (change_text was is case.old case.new case.cell ++ after))
in_cases lines was is [] case k lt e listed = absurd (omega arith)
in_cases lines was is (first ∷ more) case zero lt e listed =
    let same : first ≡ case = e in
    let text : case_text lines was is first ≡ change_text was is case.old case.new case.cell =
    ap (λ (c : Case). case_text lines was is c) same ∙ listed_by (is_listed lines was is case) (change_text was is case.old case.new case.cell) listed in
    ([], cases_text lines was is more, ap (λ t. t ++ cases_text lines was is more) text)
in_cases lines was is (first ∷ more) case (suc k) lt e listed =
    let rest = in_cases lines was is more case k (omega arith) e listed in
    let here = case_text lines was is first in
    (here ++ rest.0, rest.1, ap (λ t. here ++ t) rest.2 ∙ sym (append_assoc here rest.0 (change_text was is case.old case.new case.cell ++ rest.1)))

listed_if : (lines : Bool) (was is : SideRead) (case : Case) → case.old.value ≢ case.new.value → is_listed lines was is case ≡ true
listed_if lines was is case differ =
    let cases : (b : Bool) → (case.old.value == case.new.value) ≡ b → is_listed lines was is case ≡ true = elim [
      | true ↦ λ e. absurd (differ (eqb-true case.old.value case.new.value e))
      | false ↦ λ e. listed_false lines was is case e
    ] in
    cases (case.old.value == case.new.value) refl
  where
    or_true : (a b : Bool) → a ≡ true → (a || b) ≡ true
    or_true true b e = refl
    or_true false b e = absurd (cc)

    listed_false : (lines : Bool) (was is : SideRead) (case : Case) → (case.old.value == case.new.value) ≡ false → is_listed lines was is case ≡ true
    listed_false lines was is case e = or_true (not (case.old.value == case.new.value)) _ (ap not e)

-- The lines of the cases end the answer.
front_by : (lines : Bool) (was is : SideRead) (cases : List Case) (answer : List ℕ) (finding : Finding) → PrintsCases lines was is cases answer finding
    → (front : List ℕ) × (answer ≡ front ++ cases_text lines was is cases)
front_by lines was is cases answer finding (inl prints) = (same_text, prints.1)
front_by lines was is cases answer finding (inr prints) = ([], prints.1)

pub line_of_cell : EachCellThatDiffersHasItsLine
line_of_cell kinds lines old octets answer was is finding text said old_is new_is cell one other there decides_one decides_other differ =
    let decided = decided_from kinds lines old octets answer was is finding text said old_is new_is in
    let are = decided.are_cases in
    let found = are.are_cases.each cell there in
    let case = found.case in
    let is_case : IsCaseOf are.was are.is case = All-contains (IsCaseOf are.was are.is) decided.cases case are.are_cases.all found.is_among in
    let was_one : case.old ≡ one = found.old_is ∙ decides_once was cell (are.was cell) one (are.old_says cell there) decides_one in
    let is_other : case.new ≡ other = found.new_is ∙ decides_once is cell (are.is cell) other (are.new_says cell there) decides_other in
    let values : case.old.value ≢ case.new.value = λ e.
    differ (sym (ap (λ (d : Decision). d.value) was_one) ∙ (e ∙ ap (λ (d : Decision). d.value) is_other)) in
    let front = front_by lines was is decided.cases answer finding decided.prints in
    let placed = in_cases lines was is decided.cases case found.is_among.0 found.is_among.1 found.is_among.2 (listed_if lines was is case values) in
    let line : change_text was is case.old case.new case.cell ≡ change_text was is one other case.cell =
    ap (λ (d : Decision). change_text was is d case.new case.cell) was_one ∙ ap (λ (d : Decision). change_text was is one d case.cell) is_other in
    record {
      least = case.cell;
      before = front.0 ++ placed.0;
      after = placed.1;
      is_cell = is_case.cell;
      old_same = subst (λ (d : Decision). SideDecides was case.cell d) (is_case.old_is ∙ was_one) (are.old_says case.cell is_case.cell);
      new_same = subst (λ (d : Decision). SideDecides is case.cell d) (is_case.new_is ∙ is_other) (are.new_says case.cell is_case.cell);
      not_greater = is_case.least cell there (sym found.old_is) (sym found.new_is);
      printed = front.1 ∙ (ap (λ t. front.0 ++ t) (placed.2 ∙ ap (λ t. placed.0 ++ (t ++ placed.1)) line)
          ∙ sym (append_assoc front.0 placed.0 (change_text was is one other case.cell ++ placed.1)));
    }
