-- The option of `upc-lab explain`.
use Rattle.std.specs.Prelude.{List, [], ◌∷◌, Option, None, codes, false, option_map, true}
use Rattle.std.specs.String.{string_bytes}
use Rattle.clap.specs.Simple.{App}
use Rattle.clap.specs.Walk.{Text}
use Rattle.text_command_line.specs.Arguments.{app_with_rules, argument_rule}
use Rattle.text_command_line.specs.CommandLines.{argument_value}
use Rattle.cmd_options.specs.OptionValues.{asked_file_of}
use Rattle.cmd_options.specs.declared.explain.ExplainOptions.{ExplainOptions}

-- The command `upc-lab explain` has the option `--setup SETUP`. Like every command it also has `--help`.
unfoldable pub explain_app : App
explain_app = app_with_rules (codes "upc-lab explain") (argument_rule (codes "setup") true None false ∷ [])

-- What is asked for: the name of the file with a setup script, if any.
pub record ExplainAsked : Type 0 where
  pub setup : Option Text

-- What options of `explain` ask for.
abbrev pub explain_asked_by : ExplainOptions → ExplainAsked
explain_asked_by options = record { setup = option_map string_bytes options.setup }

-- What this value spells, if it spells something.
abbrev pub explain_values : Option Text → Option ExplainAsked
explain_values setup = option_map (λ name. record { setup = name }) (asked_file_of setup)

-- What the value of the option in the words spells.
abbrev pub explain_asked : List Text → Option ExplainAsked
explain_asked words = explain_values (argument_value explain_app words (codes "setup"))
