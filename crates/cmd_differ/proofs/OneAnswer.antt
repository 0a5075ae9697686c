-- Texts have one answer, unless nothing is decided.
use Rattle.std.proofs.Common.{◌≡◌, ℕ, ◌≤◌, Bool, List, [], ◌∷◌, ◌++◌, Option, Some, None, Result, Ok, Err, inl, inr, refl, sym, ap, subst, ◌∙◌, arith}
use Rattle.std.specs.List.{Contains}
use Rattle.std.proofs.lemmas.List.Elements.{All-contains}
use Rattle.bpf_code.specs.declared.instr.Instr.{Instr}
use Rattle.rules_diagrams.specs.Cases.{AreInOrder, IsCaseOf}
use Rattle.rules_diagrams.specs.CellNumbers.{octets_number}
use Rattle.rules_diagrams.specs.declared.case.Case.{Case}
use Rattle.rules_cells.specs.Decisions.{decision_of}
use Rattle.rules_cells.specs.Fields.{IsCell}
use Rattle.rules_cells.specs.declared.deciding.Decision.{Decision}
use Rattle.rules_cells.specs.declared.rules.Rules.{Rules}
use Rattle.rules_text.specs.DecisionsRead.{rules_decide}
use Rattle.rules_text.specs.RulesRead.{RulesRead, rules_read}
use Rattle.rules_text.specs.TextOfRules.{PlacedRulesRead, placed_rules_in}
use Rattle.rules_text.specs.declared.fault.RuleFault.{RuleFault}
use Rattle.rules_text.proofs.Public.{decision_same}
use Rattle.cmd_rules.specs.RuleFaults.{rule_fault}
use Rattle.cmd_rules.specs.RulesAnswers.{most_rules_octets}
use Rattle.text_io.specs.Gathered.{gathered}
use Rattle.bpf_asm.specs.SourceLines.{source_lines}
use Rattle.cmd_programs.specs.Program.{ProgramReading, is_program, is_refused}
use Rattle.cmd_differ.specs.DifferText.{AreSideCases, FindsSide, FindsText, IsDecided, PrintsCases, PrintsComparison, PrintsDiffer, PrintsFaultAfter, PrintsSideFault, new_mark, old_mark}
use Rattle.cmd_differ.specs.OneAnswer.{IsDecisive, TwoTextsHaveOneAnswer}
use Rattle.cmd_differ.specs.declared.finding.Finding.{Finding}
use Rattle.cmd_differ.specs.ProgramText.{ReadsProgramText, spoken_lines}
use Rattle.cmd_differ.specs.Sides.{SideRead, side_program, side_rules}
use Rattle.cmd_differ.specs.declared.finding.Finding.TheVariants.{Undecided}
use Rattle.cmd_differ.specs.declared.kinds.TextKind.{TextKind}
use Rattle.cmd_differ.specs.declared.kinds.TextKind.TheVariants.{Rules as OfRules, Program as OfProgram}
use Rattle.cmd_differ.specs.declared.kinds.TextKinds.{TextKinds}
use Rattle.cmd_differ.proofs.ProgramLines.{spoken_once}
use Rattle.cmd_differ.proofs.SideSteps.{decides_once}
use Rattle.cmd_differ.proofs.SameLists.{IsAscendingBy, same_cell, same_lists}

-- ---- texts and faults

one_text : (one other : List ℕ) (found : Option (List ℕ)) → found ≡ Some one → found ≡ Some other → one ≡ other
one_text one other found e f = cc

one_reading : (one other : PlacedRulesRead) (read : Result PlacedRulesRead RuleFault) → read ≡ Ok one → read ≡ Ok other → one ≡ other
one_reading one other read e f = cc

one_fault : (one other : RuleFault) (read : Result PlacedRulesRead RuleFault) → read ≡ Err one → read ≡ Err other → one ≡ other
one_fault one other read e f = cc

pub finds_same : (found : Option (List ℕ)) (one other : PlacedRulesRead) → FindsText found one → FindsText found other → one ≡ other
finds_same found one other finds also =
    let text = one_text finds.0 also.0 found finds.1 also.1 in
    one_reading one other (placed_rules_in finds.0) finds.2 (subst (λ (t : List ℕ). placed_rules_in t ≡ Ok other) (sym text) also.2)

pub fault_same : (mark : List ℕ) (found : Option (List ℕ)) (answer other : List ℕ) → PrintsFaultAfter mark found answer → PrintsFaultAfter mark found other → answer ≡ other
fault_same mark None answer other one two = one ∙ sym two
fault_same mark (Some text) answer other one two =
    let same = one_fault one.0 two.0 (placed_rules_in text) one.1 two.1 in
    one.2 ∙ (ap (λ (f : RuleFault). mark ++ rule_fault f) same ∙ sym two.2)

no_both : (text : List ℕ) (fault : RuleFault) (placed_rules : PlacedRulesRead) → placed_rules_in text ≡ Err fault → placed_rules_in text ≡ Ok placed_rules → ⊥
no_both text fault placed_rules e f = absurd (cc)

pub fault_or_found : (mark : List ℕ) (found : Option (List ℕ)) (answer : List ℕ) (placed_rules : PlacedRulesRead) → PrintsFaultAfter mark found answer → FindsText found placed_rules → ⊥
fault_or_found mark None answer placed_rules faulty finds = let bad : None ≡ Some finds.0 = finds.1 in absurd (cc)
fault_or_found mark (Some text) answer placed_rules faulty finds =
    let same : text ≡ finds.0 = one_text text finds.0 (Some text) refl finds.1 in
    no_both text faulty.0 placed_rules faulty.1 (subst (λ (t : List ℕ). placed_rules_in t ≡ Ok placed_rules) (sym same) finds.2)

pub undecided_not : {A : Type 0} (finding : Finding) → IsDecisive finding → finding ≡ Undecided → A
undecided_not finding said e = absurd (subst IsDecisive e said)

-- ---- sides

program_once : (text : List ℕ) (one other : ProgramReading) → ReadsProgramText text one → ReadsProgramText text other → one ≡ other
program_once text = spoken_once (spoken_lines (source_lines text))

same_code : (one other : List Instr) → is_program one ≡ is_program other → one ≡ other
same_code one other e = cc

same_refusal : (one other : List ℕ) → is_refused one ≡ is_refused other → one ≡ other
same_refusal one other e = cc

code_or_refusal : (code : List Instr) (fault : List ℕ) → is_refused fault ≡ is_program code → ⊥
code_or_refusal code fault e = absurd (cc)

pub side_same : (kind : TextKind) (found : Option (List ℕ)) (one other : SideRead) → FindsSide kind found one → FindsSide kind found other → one ≡ other
side_same OfRules found one other finds also = finds.2 ∙ (ap side_rules (finds_same found finds.0 also.0 finds.1 also.1) ∙ sym also.2)
side_same OfProgram found one other finds also =
    let text = one_text finds.1.0 also.1.0 found finds.1.1 also.1.1 in
    let read : ReadsProgramText finds.1.0 (is_program also.0) = subst (λ (t : List ℕ). ReadsProgramText t (is_program also.0)) (sym text) also.1.2 in
    let code = same_code finds.0 also.0 (program_once finds.1.0 (is_program finds.0) (is_program also.0) finds.1.2 read) in
    finds.2 ∙ (ap side_program code ∙ sym also.2)

pub side_fault_same : (kind : TextKind) (mark : List ℕ) (found : Option (List ℕ)) (answer other : List ℕ) → PrintsSideFault kind mark found answer → PrintsSideFault kind mark found other
    → answer ≡ other
side_fault_same OfRules mark found answer other one two = fault_same mark found answer other one two
side_fault_same OfProgram mark None answer other one two = one ∙ sym two
side_fault_same OfProgram mark (Some text) answer other one two =
    let same = same_refusal one.0 two.0 (program_once text (is_refused one.0) (is_refused two.0) one.1 two.1) in
    one.2 ∙ (ap (λ (f : List ℕ). mark ++ f) same ∙ sym two.2)

pub fault_or_side : (kind : TextKind) (mark : List ℕ) (found : Option (List ℕ)) (answer : List ℕ) (side : SideRead) → PrintsSideFault kind mark found answer → FindsSide kind found side → ⊥
fault_or_side OfRules mark found answer side faulty finds = fault_or_found mark found answer finds.0 faulty finds.1
fault_or_side OfProgram mark None answer side faulty finds = let bad : None ≡ Some finds.1.0 = finds.1.1 in absurd (cc)
fault_or_side OfProgram mark (Some text) answer side faulty finds =
    let same : text ≡ finds.1.0 = one_text text finds.1.0 (Some text) refl finds.1.1 in
    let read : ReadsProgramText text (is_program finds.0) = subst (λ (t : List ℕ). ReadsProgramText t (is_program finds.0)) (sym same) finds.1.2 in
    code_or_refusal finds.0 faulty.0 (program_once text (is_refused faulty.0) (is_program finds.0) faulty.1 read)

-- ---- cases

-- Rules that were read alike decide alike.
pub decide_same : (one other : Rules) (cell : List ℕ) → rules_read one ≡ rules_read other → decision_of one cell ≡ decision_of other cell
decide_same one other cell e = decision_same one cell ∙ (ap (λ (r : RulesRead). rules_decide r cell) e ∙ sym (decision_same other cell))

equal_from : (a b : ℕ) → a ≤ b → b ≤ a → a ≡ b
equal_from a b le ge = omega arith

same_case : (one other : Case) → one.old ≡ other.old → one.new ≡ other.new → one.cell ≡ other.cell → one ≡ other
same_case one other old new cell =
    let by_old : Decision → Case = λ d. record { old = d; new = one.new; cell = one.cell } in
    let by_new : Decision → Case = λ d. record { old = other.old; new = d; cell = one.cell } in
    let by_cell : List ℕ → Case = λ c. record { old = other.old; new = other.new; cell = c } in
    ap by_old old ∙ (ap by_new new ∙ ap by_cell cell)

ascending_cases : (cases : List Case) → AreInOrder cases → IsAscendingBy (λ (c : Case). octets_number c.cell) cases
ascending_cases [] are = tt
ascending_cases (first ∷ more) are = (are.0, ascending_cases more are.1)

module _ (old new : SideRead) where
  old_same : (cases others : List Case) (are : AreSideCases old new cases) (also : AreSideCases old new others) (cell : List ℕ) → IsCell cell → are.was cell ≡ also.was cell
  old_same cases others are also cell there = decides_once old cell (are.was cell) (also.was cell) (are.old_says cell there) (also.old_says cell there)

  new_same : (cases others : List Case) (are : AreSideCases old new cases) (also : AreSideCases old new others) (cell : List ℕ) → IsCell cell → are.is cell ≡ also.is cell
  new_same cases others are also cell there = decides_once new cell (are.is cell) (also.is cell) (are.new_says cell there) (also.new_says cell there)

  case_among : (cases others : List Case) → AreSideCases old new cases → AreSideCases old new others → (case : Case) → Contains cases case → Contains others case
  case_among cases others are also case there =
      let one : IsCaseOf are.was are.is case = All-contains (IsCaseOf are.was are.is) cases case are.are_cases.all there in
      let found = also.are_cases.each case.cell one.cell in
      let two : IsCaseOf also.was also.is found.case = All-contains (IsCaseOf also.was also.is) others found.case also.are_cases.all found.is_among in
      let olds : found.case.old ≡ case.old = found.old_is ∙ (sym (old_same cases others are also case.cell one.cell) ∙ one.old_is) in
      let news : found.case.new ≡ case.new = found.new_is ∙ (sym (new_same cases others are also case.cell one.cell) ∙ one.new_is) in
      let le = two.least case.cell one.cell (sym found.old_is) (sym found.new_is) in
      let ge = one.least found.case.cell two.cell (old_same cases others are also found.case.cell two.cell ∙ (two.old_is ∙ olds))
      (new_same cases others are also found.case.cell two.cell ∙ (two.new_is ∙ news)) in
      let number : octets_number found.case.cell ≡ octets_number case.cell = equal_from (octets_number found.case.cell) (octets_number case.cell) le ge in
      let cell : found.case.cell ≡ case.cell = same_cell found.case.cell case.cell two.cell one.cell number in
      subst (λ (c : Case). Contains others c) (same_case found.case case olds news cell) found.is_among

cases_same : (old new : SideRead) (cases others : List Case) → AreSideCases old new cases → AreSideCases old new others → cases ≡ others
cases_same old new cases others are also =
    same_lists (λ (c : Case). octets_number c.cell) cases others (ascending_cases cases are.are_cases.ordered) (ascending_cases others also.are_cases.ordered)
    (case_among old new cases others are also) (case_among old new others cases also are)

prints_same : (lines : Bool) (old new : SideRead) (cases : List Case) (answer other : List ℕ) (finding also : Finding) → PrintsCases lines old new cases answer finding
    → PrintsCases lines old new cases other also → (answer ≡ other) × (finding ≡ also)
prints_same lines old new cases answer other finding also (inl one) (inl two) = (one.1 ∙ sym two.1, one.2 ∙ sym two.2)
prints_same lines old new cases answer other finding also (inl one) (inr two) = absurd (two.0 one.0)
prints_same lines old new cases answer other finding also (inr one) (inl two) = absurd (one.0 two.0)
prints_same lines old new cases answer other finding also (inr one) (inr two) = (one.1 ∙ sym two.1, one.2 ∙ sym two.2)

decided_same : (lines : Bool) (old new : SideRead) (answer other : List ℕ) (finding also : Finding) → IsDecided lines old new answer finding → IsDecided lines old new other also
    → (answer ≡ other) × (finding ≡ also)
decided_same lines old new answer other finding also one two =
    let cases = cases_same old new one.cases two.cases one.are_cases two.are_cases in
    let prints : PrintsCases lines old new one.cases other also = subst (λ (cs : List Case). PrintsCases lines old new cs other also) (sym cases) two.prints in
    prints_same lines old new one.cases answer other finding also one.prints prints

compared_same : (lines : Bool) (old new : SideRead) (answer other : List ℕ) (finding also : Finding) → IsDecisive finding → IsDecisive also → PrintsComparison lines old new answer finding
    → PrintsComparison lines old new other also → (answer ≡ other) × (finding ≡ also)
compared_same lines old new answer other finding also said told (inl one) (inl two) = decided_same lines old new answer other finding also one two
compared_same lines old new answer other finding also said told (inr one) two = undecided_not finding said one.1
compared_same lines old new answer other finding also said told (inl one) (inr two) = undecided_not also told two.1

printed_same : (kinds : TextKinds) (lines : Bool) (old new : Option (List ℕ)) (answer other : List ℕ) (finding also : Finding) → IsDecisive finding → IsDecisive also
    → PrintsDiffer kinds lines old new answer finding → PrintsDiffer kinds lines old new other also → (answer ≡ other) × (finding ≡ also)
printed_same kinds lines old new answer other finding also said told (inl one) (inl two) = (side_fault_same kinds.old old_mark old answer other one.0 two.0, one.1 ∙ sym two.1)
printed_same kinds lines old new answer other finding also said told (inl one) (inr two) = absurd (fault_or_side kinds.old old_mark old answer two.0 one.0 two.1)
printed_same kinds lines old new answer other finding also said told (inr one) (inl two) = absurd (fault_or_side kinds.old old_mark old other one.0 two.0 one.1)
printed_same kinds lines old new answer other finding also said told (inr (was, finds, inl one)) (inr (was', finds', inl two)) =
    (side_fault_same kinds.new new_mark new answer other one.0 two.0, one.1 ∙ sym two.1)
printed_same kinds lines old new answer other finding also said told (inr (was, finds, inl one)) (inr (was', finds', inr two)) =
    absurd (fault_or_side kinds.new new_mark new answer two.0 one.0 two.1)
printed_same kinds lines old new answer other finding also said told (inr (was, finds, inr one)) (inr (was', finds', inl two)) =
    absurd (fault_or_side kinds.new new_mark new other one.0 two.0 one.1)
printed_same kinds lines old new answer other finding also said told (inr (was, finds, inr (is, found, one))) (inr (was', finds', inr (is', found', two))) =
    let olds = side_same kinds.old old was was' finds finds' in
    let news = side_same kinds.new new is is' found found' in
    let moved : PrintsComparison lines was is other also =
    subst (λ (w : SideRead). PrintsComparison lines w is other also) (sym olds) (subst (λ (i : SideRead). PrintsComparison lines was' i other also) (sym news) two) in
    compared_same lines was is answer other finding also said told one moved

pub differ_same : TwoTextsHaveOneAnswer
differ_same kinds lines old octets answer other finding also one two said told =
    printed_same kinds lines (gathered most_rules_octets old) (gathered most_rules_octets octets) answer other finding also said told one two
