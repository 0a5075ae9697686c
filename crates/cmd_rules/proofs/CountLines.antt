-- The lines about rules depend on their counts alone.
use Rattle.std.proofs.Common.{◌≡◌, ◌+◌, ℕ, List, [], ◌∷◌, ◌++◌, Option, Some, None, refl, ap, ◌∙◌}
use Rattle.rules_text.specs.RulesRead.{LineRead, block_line, end_line, rule_line}
use Rattle.rules_text.specs.TextOfRules.{PlacedRulesRead}
use Rattle.rules_text.specs.declared.place.RulePlace.{RulePlace}
use Rattle.cmd_rules.specs.CountText.{count_line, counts_by, rule_count, rule_counts}

module _ (begins : List RulePlace) (times others : Option ℕ → ℕ) (same : (place : Option ℕ) → times place ≡ others place) where
  line_alike : (place : Option ℕ) → count_line begins times place ≡ count_line begins others place
  line_alike place = rw (same place) refl

  rule_alike : (place : ℕ) (rule : LineRead) → rule_count begins times place rule ≡ rule_count begins others place rule
  rule_alike place (rule_line test value) = line_alike (Some place)
  rule_alike place (block_line test) = refl
  rule_alike place end_line = refl

  rules_alike : (place : ℕ) (rules : List LineRead) → rule_counts begins times place rules ≡ rule_counts begins others place rules
  rules_alike place [] = refl
  rules_alike place (rule ∷ rules) =
      ap (λ (text : List ℕ). text ++ rule_counts begins times (place + 1) rules) (rule_alike place rule)
      ∙ ap (λ (text : List ℕ). rule_count begins others place rule ++ text) (rules_alike (place + 1) rules)

pub counts_alike : (placed_rules : PlacedRulesRead) (times others : Option ℕ → ℕ) → ((place : Option ℕ) → times place ≡ others place)
    → counts_by placed_rules times ≡ counts_by placed_rules others
counts_alike placed_rules times others same =
    ap (λ (text : List ℕ). text ++ count_line placed_rules.begins times None) (rules_alike placed_rules.begins times others same 0 placed_rules.rules.lines)
    ∙ ap (λ (text : List ℕ). rule_counts placed_rules.begins others 0 placed_rules.rules.lines ++ text) (line_alike placed_rules.begins times others same None)
