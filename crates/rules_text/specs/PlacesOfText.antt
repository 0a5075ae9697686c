-- Where the code of each line of rules begins.
use Rattle.std.specs.Prelude.{◌≡◌, ℕ, List}
use Rattle.rules_cells.specs.PlainOf.{ArePlainLines}
use Rattle.rules_code.specs.LineCode.{lines_code}
use Rattle.rules_code.specs.LinePlaces.{line_starts_from_end}
use Rattle.rules_code.specs.declared.lines.Line.{Line}
use Rattle.rules_text.specs.RulesInMemory.{HasPlacedRules}
use Rattle.rules_text.specs.declared.compiler.CodeWithPlaces.{CodeWithPlaces}
use Rattle.rules_text.specs.declared.reader.PlacedRules.{PlacedRules}

-- The code is that of the text's rules. `starts_from_end` says where the code of each line begins (`line_starts_from_end`), and `begins`
-- where the line begins in the text.
pub record IsCodeWithPlaces (octets : List ℕ) (made : CodeWithPlaces) : Type 0 where
  pub placed_rules : PlacedRules
  pub read : HasPlacedRules octets placed_rules
  pub begins : made.begins.items ≡ placed_rules.begins.items
  pub lines : List Line
  pub plain : ArePlainLines placed_rules.rules.side placed_rules.rules.lines.items lines
  pub code : made.placed.code.items ≡ lines_code lines placed_rules.rules.otherwise
  pub starts_from_end : made.placed.starts_from_end.items ≡ line_starts_from_end lines placed_rules.rules.otherwise
