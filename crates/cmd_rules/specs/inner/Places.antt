-- Rules whose values are places: the code of such rules says which line decides a cell.
use Rattle.std.specs.Prelude.{◌≡◌, ℕ, zero, suc, ◌+◌, List, [], ◌∷◌, Option, Some, None, Ok, slice_get}
use Rattle.bpf_code.specs.declared.instr.Instr.{Instr}
use Rattle.bpf_interp.specs.Value.{Value}
use Rattle.rules_cells.specs.Fields.{IsCell}
use Rattle.rules_cells.specs.declared.deciding.Decision.{Decision}
use Rattle.rules_cells.specs.declared.rules.RuleLine.{RuleLine}
use Rattle.rules_cells.specs.declared.rules.RuleLine.TheVariants.{Rule, Block, End}
use Rattle.rules_cells.specs.declared.rules.Rules.{Rules}
use Rattle.rules_text.specs.DecisionsRead.{rules_decide}
use Rattle.rules_text.specs.RulesRead.{RulesRead}
use Rattle.rules_text.specs.TextOfRules.{PlacedRulesRead, placed_rules_in}
use Rattle.cmd_rules.specs.WhyText.{HasCode}

-- The line at this place, whose value is the place, counted from 1.
abbrev pub line_by_place : ℕ → RuleLine → RuleLine
line_by_place place (Rule test value) = Rule test (suc place)
line_by_place place (Block test) = Block test
line_by_place place End = End

-- Lines, the first of which is at this place, with their places as values.
abbrev pub lines_by_place : ℕ → List RuleLine → List RuleLine
lines_by_place place [] = []
lines_by_place place (line ∷ lines) = line_by_place place line ∷ lines_by_place (place + 1) lines

-- The place of a line, counted from 1; 0 for no line.
abbrev pub place_value : Option ℕ → ℕ
place_value None = 0
place_value (Some place) = suc place

-- On every cell the machine gives the place of the line that decides it.
abbrev pub GivesPlaces : RulesRead → List Instr → Type 0
GivesPlaces rules code = (cell : List ℕ) (value steps : ℕ) → IsCell cell → Value code cell value steps → value ≡ place_value (rules_decide rules cell).line

-- The value of the rule at a place; 0 if there is none.
abbrev pub value_of_line : Option RuleLine → ℕ
value_of_line None = 0
value_of_line (Some (Rule test value)) = value
value_of_line (Some (Block test)) = 0
value_of_line (Some End) = 0

-- The decision of the line at this place, counted from 1; 0 is no line.
abbrev pub decision_by_place : Rules → ℕ → Decision
decision_by_place rules zero = record { line = None; value = rules.otherwise }
decision_by_place rules (suc place) = record { line = Some place; value = value_of_line (slice_get rules.lines.items place) }

-- A text was found that has these rules, and a code that isn't too long.
abbrev pub FindsRules : Option (List ℕ) → PlacedRulesRead → Type 0
FindsRules found placed_rules = (text : List ℕ) × (found ≡ Some text) × (placed_rules_in text ≡ Ok placed_rules) × HasCode text
