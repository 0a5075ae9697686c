-- What is promised of the code of rules.
use Rattle.std.specs.Prelude.{◌≡◌, ℕ, List}
use Rattle.bpf_code.specs.declared.instr.Instr.{Instr}
use Rattle.bpf_interp.specs.Value.{Value}
use Rattle.rules_cells.specs.Fields.{IsCell}
use Rattle.rules_cells.specs.Rules.{value_of_rules}
use Rattle.rules_cells.specs.declared.rules.Rules.{Rules}

-- On every cell the machine gives the value of the rules, and no other.
pub record FollowsRules (rules : Rules) (code : List Instr) : Type 0 where
  pub gives : (cell : List ℕ) → IsCell cell → (steps : ℕ) × Value code cell (value_of_rules rules cell) steps
  pub only : (cell : List ℕ) (value steps : ℕ) → IsCell cell → Value code cell value steps → value ≡ value_of_rules rules cell
