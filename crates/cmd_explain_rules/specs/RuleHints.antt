-- The hints about rules that decide no cell.
use Rattle.std.specs.Prelude.{◌≡◌, ◌⊎◌, ℕ, ◌-◌, ◌==◌, if◌then◌else◌, List, [], ◌∷◌, ◌++◌, length, codes, decimal, Some}
use Rattle.rules_diagrams.specs.UnusedRules.{AreUnused}
use Rattle.rules_diagrams.specs.declared.unused.Unused.{Unused}
use Rattle.rules_cells.specs.declared.rules.Rules.{Rules}
use Rattle.cmd_rules.specs.CountText.{decider_text}
use Rattle.cmd_rules.specs.RuleBegins.{begin_at}
use Rattle.cmd_explain_script.specs.Places.{place_words}
use Rattle.rules_text.specs.RulesRead.{rules_read}
use Rattle.rules_text.specs.TextOfRules.{PlacedRulesRead}
use Rattle.rules_text.specs.declared.place.RulePlace.{RulePlace}
use Rattle.text_words.specs.FaultLines.{line}

-- Where the rule at a place begins, in words.
abbrev pub rule_line_words : List RulePlace → ℕ → List ℕ
rule_line_words begins place = decider_text begins (Some place)

-- What comes before a rule of a list that these follow.
abbrev pub separator : List ℕ → List ℕ
separator [] = codes " and "
separator (place ∷ more) = codes ", "

-- How many rules aren't named.
abbrev pub left_out : ℕ → List ℕ
left_out count = codes " and " ++ (decimal count ++ codes " more")

-- Where the rules after the first begin. This many of them are named.
abbrev pub rules_after_first : List RulePlace → ℕ → List ℕ → List ℕ
rules_after_first begins room [] = []
rules_after_first begins room (place ∷ more) =
    if room == 0 then left_out (length (place ∷ more)) else separator more ++ (rule_line_words begins place ++ rules_after_first begins (room - 1) more)

-- That one rule takes the cells, or that several do. These are the rules after the first.
abbrev pub takes_words : List ℕ → List ℕ
takes_words [] = codes " takes its cells"
takes_words (place ∷ more) = codes " take its cells"

-- The rules that take the cells of a rule, at most eight by name: the first, and the others.
abbrev pub rule_list : List RulePlace → ℕ → List ℕ → List ℕ
rule_list begins first more = rule_line_words begins first ++ rules_after_first begins 7 more

-- That a rule decides no cell, and which rules take its cells.
abbrev pub decides_no_cell_words : List RulePlace → ℕ → List ℕ → List ℕ
decides_no_cell_words begins first more = codes "this rule decides no cell; " ++ (rule_list begins first more ++ takes_words more)

-- The sentence about a rule that decides no cell, by the rules that take its cells.
abbrev pub hint_sentence : List RulePlace → List ℕ → List ℕ
hint_sentence begins [] = codes "this rule holds of no cell"
hint_sentence begins (first ∷ more) = decides_no_cell_words begins first more

-- The hint about a rule that decides no cell.
abbrev pub rule_hint : List RulePlace → ℕ → List ℕ → List ℕ
rule_hint begins place takers = codes "hint " ++ (place_words (begin_at begins place).line (begin_at begins place).column ++ line (hint_sentence begins takers))

-- The hints about these rules, each after these octets.
abbrev pub rule_hints : List ℕ → List RulePlace → List Unused → List ℕ
rule_hints front begins [] = []
rule_hints front begins (one ∷ more) = front ++ (rule_hint begins one.place one.takers.items ++ rule_hints front begins more)

-- The hints about all rules that decide no cell, each after these octets. The rules in memory are those that were read.
pub record AreAllHints (front : List ℕ) (placed_rules : PlacedRulesRead) (text : List ℕ) : Type 0 where
  pub rules : Rules
  pub read : placed_rules.rules ≡ rules_read rules
  pub unused : List Unused
  pub are_unused : AreUnused rules unused
  pub hints : text ≡ rule_hints front placed_rules.begins unused

-- That nothing is decided, since the search would take too much work.
abbrev pub undecided_hint : List ℕ
undecided_hint = codes "hint: not decided: too many cases\n"

-- The hints about rules, each after these octets, or that nothing is decided.
abbrev pub AreRuleHints : List ℕ → PlacedRulesRead → List ℕ → Type 0
AreRuleHints front placed_rules text = AreAllHints front placed_rules text ⊎ (text ≡ front ++ undecided_hint)
