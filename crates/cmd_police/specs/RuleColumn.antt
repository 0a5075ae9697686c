-- The column that says which rule gave a cell its value.
use Rattle.std.specs.Prelude.{ℕ, List, [], ◌∷◌, ◌++◌, codes, Option, Some, None, option_and_then}
use Rattle.cmd_rules.specs.RuleBegins.{begin_at, begin_text}
use Rattle.line_record.specs.History.{numbered}
use Rattle.rules_text.specs.DecisionsRead.{rules_decide}
use Rattle.rules_text.specs.TextOfRules.{PlacedRulesRead}
use Rattle.rules_text.specs.declared.place.RulePlace.{RulePlace}

-- The rules of a program: the name of their file, as it is printed, and what was read of their text.
pub record NamedRules : Type 0 where
  pub name : List ℕ
  pub numbered : PlacedRulesRead

-- If lines have the column, the rules of each program of the script, in the order in which they are loaded. A program that wasn't compiled
-- from a file of rules has none.
abbrev pub ShownRules : Type 0
ShownRules = Option (List (Option NamedRules))

-- The source line in which the line of rules at this place begins, with its column if it has one; or `otherwise`, if no rule decides.
abbrev pub rule_begin : List RulePlace → Option ℕ → List ℕ
rule_begin begins None = codes "otherwise"
rule_begin begins (Some place) = begin_text (begin_at begins place)

-- The rule of these that decides a cell.
abbrev pub deciding_rule : NamedRules → List ℕ → List ℕ
deciding_rule rules cell = rules.name ++ (58 ∷ rule_begin rules.numbered.begins (rules_decide rules.numbered.rules cell).line)

-- The same, or a minus sign if there are no rules.
abbrev pub rule_shown : Option NamedRules → List ℕ → List ℕ
rule_shown None cell = codes "-"
rule_shown (Some rules) cell = deciding_rule rules cell

-- The rules of the program with this number, counted from 1, if it has some. No program has the number 0.
abbrev pub rules_numbered : List (Option NamedRules) → ℕ → Option NamedRules
rules_numbered programs number = option_and_then (λ rules. rules) (numbered programs number)

-- The end of the heading.
abbrev pub heading_end : ShownRules → List ℕ
heading_end None = codes "\n"
heading_end (Some programs) = codes "\trule\n"

-- The end of the line of a cell that the program with this number gave its value; the number is 0 for a cell that wasn't judged.
abbrev pub line_end : ShownRules → ℕ → List ℕ → List ℕ
line_end None number cell = codes "\n"
line_end (Some programs) number cell = 9 ∷ (rule_shown (rules_numbered programs number) cell ++ codes "\n")
