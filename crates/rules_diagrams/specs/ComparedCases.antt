-- What rules or programs decide for the cells.
use Rattle.std.specs.Prelude.{◌≡◌, ℕ, List, None}
use Rattle.bpf_interp.specs.Value.{Value}
use Rattle.rules_cells.specs.Decisions.{decision_of}
use Rattle.rules_cells.specs.Fields.{IsCell}
use Rattle.rules_cells.specs.declared.deciding.Decision.{Decision}
use Rattle.rules_diagrams.specs.Cases.{AreCasesOf}
use Rattle.rules_diagrams.specs.declared.case.Case.{Case}
use Rattle.rules_diagrams.specs.declared.compared.Compared.{Compared}
use Rattle.rules_diagrams.specs.declared.compared.Compared.TheVariants.{Rules as OfRules, Program as OfProgram}

-- This is decided for a cell: rules decide it by their lines; a program gives the cell its value, and no line decides.
abbrev pub DecidesAs : Compared → List ℕ → Decision → Type 0
DecidesAs (OfRules rules) cell decision = decision ≡ decision_of rules.now cell
DecidesAs (OfProgram code) cell decision = (decision.line ≡ None) × ((steps : ℕ) × Value code.now cell decision.value steps)

-- The function says what is decided for each cell.
abbrev pub SaysDecisions : Compared → (List ℕ → Decision) → Type 0
SaysDecisions compared decisions = (cell : List ℕ) → IsCell cell → DecidesAs compared cell (decisions cell)

-- The cases of what old and new rules or programs decide.
pub record AreComparedCases (old new : Compared) (cases : List Case) : Type 0 where
  pub was : List ℕ → Decision
  pub is : List ℕ → Decision
  pub old_says : SaysDecisions old was
  pub new_says : SaysDecisions new is
  pub are_cases : AreCasesOf was is cases
