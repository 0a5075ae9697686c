-- The rules of programs as they are stored, and what they show.
use Rattle.std.specs.Prelude.{List, map, Option, option_map}
use Rattle.rules_text.specs.RulesInMemory.{placed_rules_read}
use Rattle.cmd_police.specs.RuleColumn.{NamedRules, ShownRules}
use Rattle.cmd_police.specs.declared.program_rules.LoadedRules.{LoadedRules}
use Rattle.cmd_police.specs.declared.program_rules.ProgramRules.{ProgramRules}

-- The rules of a program.
abbrev pub rules_stored : ProgramRules → NamedRules
rules_stored rules = record { name = rules.name.items; numbered = placed_rules_read rules.decider.placed_rules }

-- The rules of each program, if it has some.
abbrev pub all_rules_stored : LoadedRules → List (Option NamedRules)
all_rules_stored loaded = map (option_map rules_stored) loaded.programs.items

-- The same, if they are shown.
abbrev pub shown_stored : Option LoadedRules → ShownRules
shown_stored shown = option_map all_rules_stored shown
