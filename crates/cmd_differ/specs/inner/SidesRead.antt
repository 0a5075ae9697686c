-- The sides in memory.
use Rattle.std.specs.Prelude.{◌≡◌}
use Rattle.rules_diagrams.specs.declared.compared.Compared.{Compared}
use Rattle.rules_diagrams.specs.declared.compared.Compared.TheVariants.{Rules as OfRules, Program as OfProgram}
use Rattle.rules_text.specs.RulesInMemory.{placed_rules_read}
use Rattle.cmd_differ.specs.Sides.{SideRead, side_program, side_rules}
use Rattle.cmd_differ.specs.declared.sides.SideText.{SideText}
use Rattle.cmd_differ.specs.declared.sides.SideText.TheVariants.{Rules, Program}

-- What was read.
abbrev pub side_read : SideText → SideRead
side_read (Rules placed_rules) = side_rules (placed_rules_read placed_rules)
side_read (Program code) = side_program code.items

-- What is compared is the rules or the code of this side.
abbrev pub IsShownAs : SideText → Compared → Type 0
IsShownAs (Rules placed_rules) (OfRules rules) = rules.now ≡ placed_rules.rules
IsShownAs (Rules placed_rules) (OfProgram code) = ⊥
IsShownAs (Program instrs) (OfRules rules) = ⊥
IsShownAs (Program instrs) (OfProgram code) = code.now ≡ instrs.items
