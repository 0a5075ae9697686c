-- When rules in memory are those of a text; and when rules with the places of their lines are.
use Rattle.std.specs.Prelude.{◌≡◌, ℕ, List, Ok}
use Rattle.rules_text.specs.RulesRead.{rules_read}
use Rattle.rules_text.specs.TextOfRules.{PlacedRulesRead, placed_rules_in, rules_in}
use Rattle.rules_cells.specs.declared.rules.Rules.{Rules}
use Rattle.rules_text.specs.declared.reader.PlacedRules.{PlacedRules}

-- The text has these rules.
abbrev pub HasRules : List ℕ → Rules → Type 0
HasRules octets rules = rules_in octets ≡ Ok (rules_read rules)

-- The rules as they are written, and the places.
abbrev pub placed_rules_read : PlacedRules → PlacedRulesRead
placed_rules_read placed_rules = record { rules = rules_read placed_rules.rules; begins = placed_rules.begins.items }

-- The text has these rules, whose lines begin there.
abbrev pub HasPlacedRules : List ℕ → PlacedRules → Type 0
HasPlacedRules octets placed_rules = placed_rules_in octets ≡ Ok (placed_rules_read placed_rules)
