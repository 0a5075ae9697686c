-- The values that rules in memory give.
use Rattle.std.proofs.Common.{◌≡◌, ℕ, ◌<◌, ◌%◌, ◌^◌, List, Some, None, refl, sym, ap, ◌∙◌, arith}
use Rattle.bpf_code.specs.declared.instr.Instr.{Instr}
use Rattle.rules_cells.specs.Decisions.{decision_of}
use Rattle.rules_cells.specs.Promise.{FollowsRules}
use Rattle.rules_cells.specs.declared.deciding.Decision.{Decision}
use Rattle.rules_cells.specs.declared.rules.Rules.{Rules}
use Rattle.rules_cells.proofs.DecisionSteps.{first_decides}
use Rattle.rules_text.specs.DecisionsRead.{rules_decide}
use Rattle.rules_text.specs.RulesRead.{RulesRead, rules_read}
use Rattle.rules_text.proofs.Public.{decision_same}
use Rattle.cmd_fit.specs.Flows.{cell_value}
use Rattle.cmd_fit.specs.inner.GivenValues.{GivesValues}

-- A code that follows rules gives their values.
pub gives_values : (rules : Rules) (code : List Instr) → FollowsRules rules code → GivesValues (rules_read rules) code
gives_values rules code follows cell value steps is runs =
    follows.only cell value steps is runs ∙ sym (first_decides rules cell).value ∙ ap (λ (d : Decision). d.value) (decision_same rules cell)

-- A value of 32 bits that the rules give a cell is its value.
pub value_is : (rules : RulesRead) (cell : List ℕ) (value : ℕ) → value < 2 ^ 32 → value ≡ (rules_decide rules cell).value → value ≡ cell_value (Some rules) cell
unfolding cell_value
value_is rules cell value small is =
    let same : value ≡ value % 2 ^ 32 = omega (arith, small) in
    same ∙ ap (λ (n : ℕ). n % 2 ^ 32) is

-- The value of the line of rules in memory that decides a cell is its value.
pub value_decided : (rules : Rules) (cell : List ℕ) (decision : Decision) → decision.value < 2 ^ 32 → decision ≡ decision_of rules cell
    → decision.value ≡ cell_value (Some (rules_read rules)) cell
value_decided rules cell decision small is =
    value_is (rules_read rules) cell decision.value small (ap (λ (d : Decision). d.value) (is ∙ decision_same rules cell))

-- Without rules a cell has the value 0.
pub no_value : (cell : List ℕ) → 0 ≡ cell_value None cell
unfolding cell_value
no_value cell = refl
