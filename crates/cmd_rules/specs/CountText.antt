-- What `upc-lab why --count` prints at the end of its input: how many of the cells each rule decided.
use Rattle.std.specs.Prelude.{ℕ, ◌+◌, ◌-◌, ◌==◌, ◌^◌, min, Bool, true, false, if◌then◌else◌, List, [], ◌∷◌, ◌++◌, codes, decimal, Option, Some, None}
use Rattle.rules_text.specs.RulesRead.{LineRead, block_line, end_line, rule_line}
use Rattle.rules_text.specs.TextOfRules.{PlacedRulesRead}
use Rattle.rules_text.specs.declared.place.RulePlace.{RulePlace}
use Rattle.text_words.specs.FaultLines.{line}
use Rattle.cmd_rules.specs.RuleBegins.{begin_at, begin_text}

-- The line of the rule that decides, or `otherwise`.
abbrev pub decider_text : List RulePlace → Option ℕ → List ℕ
decider_text begins None = codes "otherwise"
decider_text begins (Some place) = codes "line " ++ begin_text (begin_at begins place)

-- The places are those of one rule; no place is that of `otherwise`.
abbrev pub is_same_place : Option ℕ → Option ℕ → Bool
is_same_place None None = true
is_same_place None (Some other) = false
is_same_place (Some place) None = false
is_same_place (Some place) (Some other) = place == other

-- A count and one more. A count has 64 bits, which no input fills.
abbrev pub counted_more : ℕ → ℕ
counted_more count = min (count + 1) (2 ^ 64 - 1)

-- How often the rule at this place is among those that decided cells. No place is that of `otherwise`.
abbrev pub times_decided : Option ℕ → List (Option ℕ) → ℕ
times_decided place [] = 0
times_decided place (decider ∷ decided) =
    if is_same_place place decider then counted_more (times_decided place decided) else times_decided place decided

-- The line about a rule, by the number of cells that it decided.
abbrev pub count_line : List RulePlace → (Option ℕ → ℕ) → Option ℕ → List ℕ
count_line begins times place = decider_text begins place ++ line (codes " cells " ++ decimal (times place))

-- The line about the line of rules at this place. A block and its end decide no cell, and have none.
abbrev pub rule_count : List RulePlace → (Option ℕ → ℕ) → ℕ → LineRead → List ℕ
rule_count begins times place (rule_line test value) = count_line begins times (Some place)
rule_count begins times place (block_line test) = []
rule_count begins times place end_line = []

-- The lines about the lines of rules from this place on.
abbrev pub rule_counts : List RulePlace → (Option ℕ → ℕ) → ℕ → List LineRead → List ℕ
rule_counts begins times place [] = []
rule_counts begins times place (rule ∷ rules) = rule_count begins times place rule ++ rule_counts begins times (place + 1) rules

-- A line about each rule, in the order of the text, and one about `otherwise`.
abbrev pub counts_by : PlacedRulesRead → (Option ℕ → ℕ) → List ℕ
counts_by placed_rules times = rule_counts placed_rules.begins times 0 placed_rules.rules.lines ++ count_line placed_rules.begins times None

-- How many cells each rule decided, by the rules that decided them.
abbrev pub counts_text : PlacedRulesRead → List (Option ℕ) → List ℕ
counts_text placed_rules decided = counts_by placed_rules (λ place. times_decided place decided)
