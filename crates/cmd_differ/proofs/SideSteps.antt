-- What sides decide, and their cases.
use Rattle.std.proofs.Common.{◌≡◌, ℕ, List, Option, sym, ap, subst, ◌∙◌}
use Rattle.bpf_code.specs.declared.instr.Instr.{Instr}
use Rattle.bpf_interp.specs.Value.{Value}
use Rattle.bpf_interp.proofs.Public.{Value-unique}
use Rattle.rules_diagrams.specs.Cases.{GiveOneValue}
use Rattle.rules_diagrams.specs.ComparedCases.{AreComparedCases, DecidesAs}
use Rattle.rules_diagrams.specs.declared.case.Case.{Case}
use Rattle.rules_diagrams.specs.declared.compared.Compared.{Compared}
use Rattle.rules_diagrams.specs.declared.compared.Compared.TheVariants.{Rules as OfRules, Program as OfProgram}
use Rattle.rules_cells.specs.Decisions.{decision_of}
use Rattle.rules_cells.specs.Fields.{IsCell}
use Rattle.rules_cells.specs.declared.deciding.Decision.{Decision}
use Rattle.rules_cells.specs.declared.rules.Rules.{Rules as Written}
use Rattle.rules_text.proofs.Public.{decision_same}
use Rattle.cmd_differ.specs.DifferText.{AreSideCases}
use Rattle.cmd_differ.specs.Sides.{SideDecides, SideRead, SidesAgree, side_program, side_rules}
use Rattle.cmd_differ.specs.inner.SidesRead.{IsShownAs, side_read}
use Rattle.cmd_differ.specs.declared.sides.SideText.{SideText}
use Rattle.cmd_differ.specs.declared.sides.SideText.TheVariants.{Rules, Program}

-- ---- one decision

same_decision : (one other : Decision) → one.line ≡ other.line → one.value ≡ other.value → one ≡ other
same_decision one other line value =
    let by_line : Option ℕ → Decision = λ l. record { line = l; value = one.value } in
    let by_value : ℕ → Decision = λ v. record { line = other.line; value = v } in
    ap by_line line ∙ ap by_value value

pub decides_once : (side : SideRead) (cell : List ℕ) (one other : Decision) → SideDecides side cell one → SideDecides side cell other → one ≡ other
decides_once (side_rules placed_rules) cell one other e f = e ∙ sym f
decides_once (side_program code) cell one other e f =
    same_decision one other (e.0 ∙ sym f.0) (Value-unique code cell one.value other.value e.1.0 f.1.0 e.1.1 f.1.1).0

-- ---- agreement

abbrev Says : SideRead → (List ℕ → Decision) → Type 0
Says side decisions = (cell : List ℕ) → IsCell cell → SideDecides side cell (decisions cell)

pub agree_from : (old new : SideRead) (was is : List ℕ → Decision) → Says old was → Says new is → GiveOneValue was is → SidesAgree old new
agree_from old new was is old_says new_says gives cell one other there e f =
    ap (λ (d : Decision). d.value) (decides_once old cell one (was cell) e (old_says cell there))
    ∙ (gives cell there ∙ ap (λ (d : Decision). d.value) (decides_once new cell (is cell) other (new_says cell there) f))

pub one_value_from : (old new : SideRead) (was is : List ℕ → Decision) → Says old was → Says new is → SidesAgree old new → GiveOneValue was is
one_value_from old new was is old_says new_says agree cell there = agree cell (was cell) (is cell) there (old_says cell there) (new_says cell there)

-- ---- what is compared

shown_decides : (side : SideText) (compared : Compared) (cell : List ℕ) (decision : Decision) → IsShownAs side compared → DecidesAs compared cell decision
    → SideDecides (side_read side) cell decision
shown_decides (Rules placed_rules) (OfRules rules) cell decision same e =
    e ∙ (ap (λ (r : Written). decision_of r cell) same ∙ decision_same placed_rules.rules cell)
shown_decides (Rules placed_rules) (OfProgram code) cell decision same e = absurd same
shown_decides (Program instrs) (OfRules rules) cell decision same e = absurd same
shown_decides (Program instrs) (OfProgram code) cell decision same e =
    (e.0, (e.1.0, subst (λ (c : List Instr). Value c cell decision.value e.1.0) same e.1.1))

pub cases_shown : (old new : SideText) (one other : Compared) (cases : List Case) → IsShownAs old one → IsShownAs new other → AreComparedCases one other cases
    → AreSideCases (side_read old) (side_read new) cases
cases_shown old new one other cases old_shown new_shown are = record {
  was = are.was;
  is = are.is;
  old_says = λ cell there. shown_decides old one cell (are.was cell) old_shown (are.old_says cell there);
  new_says = λ cell there. shown_decides new other cell (are.is cell) new_shown (are.new_says cell there);
  are_cases = are.are_cases;
}
