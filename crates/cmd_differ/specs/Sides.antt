-- What `upc-lab differ` compares: the rules of a text, or the program in it.
use Rattle.std.specs.Prelude.{◌≡◌, ℕ, List, None}
use Rattle.bpf_code.specs.declared.instr.Instr.{Instr}
use Rattle.bpf_interp.specs.Value.{Value}
use Rattle.rules_cells.specs.Fields.{IsCell}
use Rattle.rules_cells.specs.declared.deciding.Decision.{Decision}
use Rattle.rules_text.specs.DecisionsRead.{rules_decide}
use Rattle.rules_text.specs.TextOfRules.{PlacedRulesRead}

-- What was read: rules and where their lines begin, or the code of a program.
pub data SideRead : Type 0 where
  side_rules : PlacedRulesRead → SideRead
  side_program : List Instr → SideRead

-- This is decided for a cell: rules decide it by their lines; a program gives the cell its value, and no line decides.
abbrev pub SideDecides : SideRead → List ℕ → Decision → Type 0
SideDecides (side_rules placed_rules) cell decision = decision ≡ rules_decide placed_rules.rules cell
SideDecides (side_program code) cell decision = (decision.line ≡ None) × ((steps : ℕ) × Value code cell decision.value steps)

-- Both sides give each cell the same value.
abbrev pub SidesAgree : SideRead → SideRead → Type 0
SidesAgree old new = (cell : List ℕ) (was is : Decision) → IsCell cell → SideDecides old cell was → SideDecides new cell is → was.value ≡ is.value
