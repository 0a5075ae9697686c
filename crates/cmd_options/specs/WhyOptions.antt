-- The option of `upc-lab why`.
use Rattle.std.specs.Prelude.{Bool, List, [], ◌∷◌, Option, Some, codes}
use Rattle.clap.specs.Simple.{App}
use Rattle.clap.specs.Walk.{Text}
use Rattle.text_command_line.specs.Arguments.{app_with_rules, flag_rule}
use Rattle.text_command_line.specs.CommandLines.{argument_value}
use Rattle.cmd_options.specs.OptionValues.{is_given}
use Rattle.cmd_options.specs.declared.why.WhyOptions.{WhyOptions}

-- The command `upc-lab why` has the option `--count`. Like every command it also has `--help`.
unfoldable pub why_app : App
why_app = app_with_rules (codes "upc-lab why") (flag_rule (codes "count") ∷ [])

-- What is asked for: whether cells are counted.
pub record WhyAsked : Type 0 where
  pub count : Bool

-- What options of `why` ask for.
abbrev pub why_asked_by : WhyOptions → WhyAsked
why_asked_by options = record { count = options.count }

-- What this value asks for.
abbrev pub why_values : Option Text → Option WhyAsked
why_values count = Some (record { count = is_given count })

-- What the value of the option in the words asks for.
abbrev pub why_asked : List Text → Option WhyAsked
why_asked words = why_values (argument_value why_app words (codes "count"))
