-- The rules from which the programs of a setup script are compiled.
use Rattle.std.specs.Prelude.{Bool, false, if◌then◌else◌, ℕ, List, [], ◌∷◌, codes, Option, Some, None, Result, Ok, Err}
use Rattle.std.specs.Str.{bytes_eq}
use Rattle.rules_text.specs.TextOfRules.{PlacedRulesRead, placed_rules_in}
use Rattle.rules_text.specs.declared.fault.RuleFault.{RuleFault}
use Rattle.text_io.specs.Lines.{Line, line_content, lines_of}
use Rattle.text_io.specs.Words.{words_of}
use Rattle.cmd_setups.specs.FileNames.{escaped_name}
use Rattle.cmd_police.specs.RuleColumn.{NamedRules, ShownRules}
use Rattle.cmd_police.specs.RulesFiles.{later_texts, next_text}
use Rattle.cmd_setups.specs.RulesLines.{named_rules}

-- Whether the first of these words is `load`.
abbrev pub begins_load : List (List ℕ) → Bool
begins_load [] = false
begins_load (word ∷ words) = bytes_eq word (codes "load")

-- Whether the first word of a line of this content is `load`.
unfoldable pub is_load_line : List ℕ → Bool
is_load_line content = begins_load (words_of content)

-- What was read of the text of a file with this name, if it has no fault.
abbrev pub rules_of_file : List ℕ → Result PlacedRulesRead RuleFault → Option NamedRules
rules_of_file name (Ok numbered) = Some (record { name = escaped_name name; numbered = numbered })
rules_of_file name (Err fault) = None

-- The rules of the program that a line loads, which may name a file of rules, before those of later lines, which have the texts that are
-- left.
abbrev pub with_line_rules : Option (List ℕ) → Line → List (List ℕ) → (List (List ℕ) → List (Option NamedRules)) → List (Option NamedRules)
with_line_rules None line texts later = if is_load_line (line_content line) then None ∷ later texts else later texts
with_line_rules (Some name) line texts later = rules_of_file name (placed_rules_in (next_text texts)) ∷ later (later_texts texts)

-- The rules of each program that these lines load, in order. The first line `rules NAME` has the first of these texts, the next one the
-- next. In a script without a fault each such line and each line `load` loads a program.
abbrev pub loaded_rules : List Line → List (List ℕ) → List (Option NamedRules)
loaded_rules [] texts = []
loaded_rules (line ∷ lines) texts = with_line_rules (named_rules line) line texts (λ texts. loaded_rules lines texts)

-- The rules that lines about cells show, if they are asked for.
abbrev pub shown_rules : Bool → List ℕ → List (List ℕ) → ShownRules
shown_rules why setup texts = if why then Some (loaded_rules (lines_of setup) texts) else None
