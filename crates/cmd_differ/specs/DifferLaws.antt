-- What is proved of the texts that `upc-lab differ` prints, in the words of what is compared.
use Rattle.std.specs.Prelude.{◌≡◌, ◌≢◌, ◌≤◌, ℕ, Bool, List, ◌++◌, Some}
use Rattle.rules_diagrams.specs.CellNumbers.{octets_number}
use Rattle.rules_cells.specs.Fields.{IsCell}
use Rattle.rules_cells.specs.declared.deciding.Decision.{Decision}
use Rattle.cmd_differ.specs.ChangeLines.{change_text}
use Rattle.cmd_differ.specs.DifferText.{FindsSide, IsDifferText}
use Rattle.cmd_differ.specs.Findings.{IsConclusive}
use Rattle.cmd_differ.specs.Sides.{SideDecides, SideRead, SidesAgree}
use Rattle.cmd_differ.specs.declared.finding.Finding.{Finding}
use Rattle.cmd_differ.specs.declared.finding.Finding.TheVariants.{Nothing}
use Rattle.cmd_differ.specs.declared.kinds.TextKind.{TextKind}
use Rattle.cmd_differ.specs.declared.kinds.TextKinds.{TextKinds}

-- A text of this kind is this side.
abbrev pub IsSideOf : TextKind → List ℕ → SideRead → Type 0
IsSideOf kind text = FindsSide kind (Some text)

-- If the finding is that the texts are the same, they give each cell the same value.
abbrev pub TheSameGiveEachCellOneValue : Type 0
TheSameGiveEachCellOneValue = (kinds : TextKinds) (lines : Bool) (old octets answer : List ℕ) (was is : SideRead)
    → IsDifferText kinds lines old octets answer Nothing → IsSideOf kinds.old old was → IsSideOf kinds.new octets is → SidesAgree was is

-- The answer has the line of these decisions. The cell in the line is one for which both texts decide so, and isn't greater than this one.
pub record HasChangeLine (was is : SideRead) (one other : Decision) (answer cell : List ℕ) : Type 0 where
  pub least : List ℕ
  pub before : List ℕ
  pub after : List ℕ
  pub is_cell : IsCell least
  pub old_same : SideDecides was least one
  pub new_same : SideDecides is least other
  pub not_greater : octets_number least ≤ octets_number cell
  pub printed : answer ≡ before ++ (change_text was is one other least ++ after)

-- If the finding is conclusive, what both texts decide for a cell to which they give two values has its line.
abbrev pub EachCellThatDiffersHasItsLine : Type 0
EachCellThatDiffersHasItsLine = (kinds : TextKinds) (lines : Bool) (old octets answer : List ℕ) (was is : SideRead) (finding : Finding)
    → IsDifferText kinds lines old octets answer finding → IsConclusive finding → IsSideOf kinds.old old was → IsSideOf kinds.new octets is
    → (cell : List ℕ) (one other : Decision) → IsCell cell → SideDecides was cell one → SideDecides is cell other → one.value ≢ other.value
    → HasChangeLine was is one other answer cell
