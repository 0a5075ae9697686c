-- What is decided for the cells before a change, and after it.
use Rattle.std.specs.Prelude.{◌≡◌, ◌≤◌, ◌<◌, ℕ, List, [], ◌∷◌}
use Rattle.std.specs.List.{All, Contains}
use Rattle.rules_cells.specs.Decisions.{decision_of}
use Rattle.rules_cells.specs.Fields.{IsCell}
use Rattle.rules_cells.specs.Rules.{value_of_rules}
use Rattle.rules_cells.specs.declared.deciding.Decision.{Decision}
use Rattle.rules_cells.specs.declared.rules.Rules.{Rules}
use Rattle.rules_diagrams.specs.CellNumbers.{octets_number}
use Rattle.rules_diagrams.specs.declared.case.Case.{Case}

-- The case has the old and the new decision for its cell. No lesser cell has the same two decisions, where cells are compared as numbers of
-- 52 octets.
pub record IsCaseOf (was is : List ℕ → Decision) (case : Case) : Type 0 where
  pub cell : IsCell case.cell
  pub old_is : was case.cell ≡ case.old
  pub new_is : is case.cell ≡ case.new
  pub least : (cell : List ℕ) → IsCell cell → was cell ≡ case.old → is cell ≡ case.new → octets_number case.cell ≤ octets_number cell

-- One of these cases has the old and the new decision for a cell.
pub record HasCaseOf (was is : List ℕ → Decision) (cases : List Case) (cell : List ℕ) : Type 0 where
  pub case : Case
  pub is_among : Contains cases case
  pub old_is : case.old ≡ was cell
  pub new_is : case.new ≡ is cell

-- No two cases have the same two decisions.
abbrev pub AreCasesApart : List Case → Type 0
AreCasesApart [] = Unit {0}
AreCasesApart (case ∷ more) = ((other : Case) → Contains more other → other.old ≡ case.old → other.new ≡ case.new → ⊥) × AreCasesApart more

-- Each case has a lesser cell than those after it.
abbrev pub AreInOrder : List Case → Type 0
AreInOrder [] = Unit {0}
AreInOrder (case ∷ more) = All (λ (later : Case). octets_number case.cell < octets_number later.cell) more × AreInOrder more

-- The cases of old and new decisions: each is a case of them, each cell has its case, no two cases have the same two decisions, and they
-- are in the order of their cells.
pub record AreCasesOf (was is : List ℕ → Decision) (cases : List Case) : Type 0 where
  pub all : All (IsCaseOf was is) cases
  pub each : (cell : List ℕ) → IsCell cell → HasCaseOf was is cases cell
  pub apart : AreCasesApart cases
  pub ordered : AreInOrder cases

-- The cases of what old and new rules decide.
abbrev pub AreCases : Rules → Rules → List Case → Type 0
AreCases old new cases = AreCasesOf (decision_of old) (decision_of new) cases

-- Old and new rules give each cell the same value.
abbrev pub GiveSame : Rules → Rules → Type 0
GiveSame old new = (cell : List ℕ) → IsCell cell → value_of_rules old cell ≡ value_of_rules new cell

-- What is decided before and after gives each cell the same value.
abbrev pub GiveOneValue : (List ℕ → Decision) → (List ℕ → Decision) → Type 0
GiveOneValue was is = (cell : List ℕ) → IsCell cell → (was cell).value ≡ (is cell).value
