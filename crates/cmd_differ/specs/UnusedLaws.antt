-- What is proved of the text that `upc-lab unused` prints, in the words of the text of rules.
use Rattle.std.specs.Prelude.{◌≡◌, ℕ, List, Ok, Some, slice_get}
use Rattle.std.specs.List.{All}
use Rattle.rules_diagrams.specs.UnusedRules.{HasPlace}
use Rattle.rules_diagrams.specs.declared.unused.Unused.{Unused}
use Rattle.rules_cells.specs.Fields.{IsCell}
use Rattle.rules_text.specs.DecisionsRead.{rules_decide}
use Rattle.rules_text.specs.RulesRead.{RulesRead, TestRead, rule_line}
use Rattle.rules_text.specs.TextOfRules.{PlacedRulesRead, placed_rules_in}
use Rattle.cmd_differ.specs.Findings.{IsConclusive}
use Rattle.cmd_differ.specs.UnusedText.{IsUnusedText, unused_text}
use Rattle.cmd_differ.specs.declared.finding.Finding.{Finding}

-- The line at this place is a rule.
abbrev pub IsRuleRead : RulesRead → ℕ → Type 0
IsRuleRead rules place = (test : TestRead) × (value : ℕ) × (slice_get rules.lines place ≡ Some (rule_line test value))

-- The line at this place decides no cell.
abbrev pub NeverDecides : RulesRead → ℕ → Type 0
NeverDecides rules place = (cell : List ℕ) → IsCell cell → (rules_decide rules cell).line ≡ Some place → ⊥

-- The answer has a line for each rule that decides no cell, in order, and no other line; or it says that there is none.
pub record NamesUnused (placed_rules : PlacedRulesRead) (answer : List ℕ) : Type 0 where
  pub named : List Unused
  pub prints : answer ≡ unused_text placed_rules.begins named
  pub rules : All (λ (one : Unused). IsRuleRead placed_rules.rules one.place) named
  pub never : All (λ (one : Unused). NeverDecides placed_rules.rules one.place) named
  pub each : (place : ℕ) → IsRuleRead placed_rules.rules place → NeverDecides placed_rules.rules place → HasPlace named place

-- If the finding is conclusive, exactly the rules that decide no cell are named.
abbrev pub ExactlyTheUnusedAreNamed : Type 0
ExactlyTheUnusedAreNamed = (octets answer : List ℕ) (placed_rules : PlacedRulesRead) (finding : Finding) → IsUnusedText octets answer finding → IsConclusive finding
    → placed_rules_in octets ≡ Ok placed_rules → NamesUnused placed_rules answer
