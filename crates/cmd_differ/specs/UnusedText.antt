-- The output of `upc-lab unused`, which names the rules of a text that decide no cell.
use Rattle.std.specs.Prelude.{◌≡◌, ◌⊎◌, ℕ, List, [], ◌∷◌, ◌++◌, codes, Option, Some}
use Rattle.rules_diagrams.specs.UnusedRules.{AreUnused}
use Rattle.rules_diagrams.specs.declared.unused.Unused.{Unused}
use Rattle.rules_cells.specs.declared.rules.Rules.{Rules}
use Rattle.cmd_rules.specs.RulesAnswers.{most_rules_octets}
use Rattle.cmd_rules.specs.CountText.{decider_text}
use Rattle.rules_text.specs.RulesRead.{rules_read}
use Rattle.rules_text.specs.TextOfRules.{PlacedRulesRead}
use Rattle.rules_text.specs.declared.place.RulePlace.{RulePlace}
use Rattle.text_io.specs.Gathered.{gathered}
use Rattle.text_io.specs.declared.ending.Done.{Done}
use Rattle.text_words.specs.FaultLines.{line}
use Rattle.cmd_differ.specs.DifferText.{FindsText, PrintsFaultAfter, not_decided}
use Rattle.cmd_differ.specs.Findings.{IsAnswerWith}
use Rattle.cmd_differ.specs.declared.finding.Finding.{Finding}
use Rattle.cmd_differ.specs.declared.finding.Finding.TheVariants.{Nothing, Something, Faulty, Undecided}

-- Where the rule at a place begins.
abbrev pub rule_text : List RulePlace → ℕ → List ℕ
rule_text begins place = decider_text begins (Some place)

-- Where the rules after the first begin.
abbrev pub more_rules_text : List RulePlace → List ℕ → List ℕ
more_rules_text begins [] = []
more_rules_text begins (place ∷ more) = codes ", " ++ (rule_text begins place ++ more_rules_text begins more)

-- The rules that decide the cells of a rule: the first of them, and the others.
abbrev pub taken_by_text : List RulePlace → ℕ → List ℕ → List ℕ
taken_by_text begins first more = codes " decides no cell: taken by " ++ (rule_text begins first ++ more_rules_text begins more)

-- The rules that decide the cells of a rule, if it holds of any.
abbrev pub takers_text : List RulePlace → List ℕ → List ℕ
takers_text begins [] = codes " decides no cell: it holds of none"
takers_text begins (first ∷ more) = taken_by_text begins first more

-- The line of a rule that decides no cell.
abbrev pub unused_line : List RulePlace → ℕ → List ℕ → List ℕ
unused_line begins place takers = line (rule_text begins place ++ takers_text begins takers)

-- The lines of rules that decide no cell.
abbrev pub unused_lines : List RulePlace → List Unused → List ℕ
unused_lines begins [] = []
unused_lines begins (one ∷ more) = unused_line begins one.place one.takers.items ++ unused_lines begins more

-- The answer if every rule decides some cell.
abbrev pub all_decide : List ℕ
all_decide = codes "every rule decides some cell\n"

-- The answer by all rules that decide no cell.
abbrev pub unused_text : List RulePlace → List Unused → List ℕ
unused_text begins [] = all_decide
unused_text begins (one ∷ more) = unused_lines begins (one ∷ more)

-- What is found: something, if some rule decides no cell.
abbrev pub unused_finding : List Unused → Finding
unused_finding [] = Nothing
unused_finding (one ∷ more) = Something

-- The rules in memory are those that were read, and the answer is by all of them that decide no cell.
pub record IsSearched (placed_rules : PlacedRulesRead) (answer : List ℕ) (finding : Finding) : Type 0 where
  pub rules : Rules
  pub read : placed_rules.rules ≡ rules_read rules
  pub unused : List Unused
  pub are_unused : AreUnused rules unused
  pub prints : answer ≡ unused_text placed_rules.begins unused
  pub finds : finding ≡ unused_finding unused

-- The answer to a text with these rules.
abbrev pub PrintsSearch : PlacedRulesRead → List ℕ → Finding → Type 0
PrintsSearch placed_rules answer finding = IsSearched placed_rules answer finding ⊎ ((answer ≡ not_decided) × (finding ≡ Undecided))

-- The answer to a text that was found: its fault, or the rules that decide no cell.
abbrev pub PrintsUnused : Option (List ℕ) → List ℕ → Finding → Type 0
PrintsUnused found answer finding =
    (PrintsFaultAfter [] found answer × (finding ≡ Faulty)) ⊎ ((placed_rules : PlacedRulesRead) × FindsText found placed_rules × PrintsSearch placed_rules answer finding)

-- The output for a whole input, and what was found.
abbrev pub IsUnusedText : List ℕ → List ℕ → Finding → Type 0
IsUnusedText octets = PrintsUnused (gathered most_rules_octets octets)

-- The output, and how the run ends.
abbrev pub IsUnusedAnswer : List ℕ → List ℕ → Done → Type 0
IsUnusedAnswer = IsAnswerWith IsUnusedText
