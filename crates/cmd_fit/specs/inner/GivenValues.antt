-- Programs that give cells the values of rules.
use Rattle.std.specs.Prelude.{◌≡◌, ℕ, List}
use Rattle.bpf_code.specs.declared.instr.Instr.{Instr}
use Rattle.bpf_interp.specs.Value.{Value}
use Rattle.rules_cells.specs.Fields.{IsCell}
use Rattle.rules_text.specs.DecisionsRead.{rules_decide}
use Rattle.rules_text.specs.RulesRead.{RulesRead}

-- On every cell the machine gives the value that the rules give it.
abbrev pub GivesValues : RulesRead → List Instr → Type 0
GivesValues rules code = (cell : List ℕ) (value steps : ℕ) → IsCell cell → Value code cell value steps → value ≡ (rules_decide rules cell).value
