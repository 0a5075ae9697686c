-- Commands whose words are read as the names of a table say, whatever the words are.
use Rattle.std.specs.Prelude.{◌&&◌, ◌||◌, Bool, List, [], ◌∷◌, codes, is_some, not}
use Rattle.std.specs.List.{list_all}
use Rattle.std.specs.Str.{bytes_eq}
use Rattle.clap.specs.Values.{is_request}
use Rattle.clap.specs.Walk.{Rule, Text, action_of, is_empty, takes_values}
use Rattle.clap.specs.Simple.{App, Shape, built}
use Rattle.clap.specs.Faults.{is_simple_and_free}
use Rattle.text_command_line.specs.CommandLines.{kinds_in}
use Rattle.text_command_line.specs.Subcommands.{meaning_in}

-- The option takes no value, and only requests something, as those for help and the version do.
abbrev pub is_request_rule : Rule → Bool
is_request_rule rule = not (is_some rule.index) && (not (takes_values rule) && is_request (action_of rule))

-- No option of the command asks for anything but help and the version.
abbrev pub has_requests_alone : Shape → Bool
has_requests_alone command = list_all is_request_rule command.rules

-- A subcommand with one name: a known one that takes no arguments, or `help`.
abbrev pub is_plain_subcommand : (Text → Bool) → Shape → Bool
is_plain_subcommand known command =
    is_empty command.aliases && ((known command.name && has_requests_alone command) || bytes_eq command.name (codes "help"))

-- Neither the name alone nor the name and `--` has an error.
abbrev pub is_taken : App → Text → Bool
is_taken app name = is_empty (kinds_in app (name ∷ [])) && is_empty (kinds_in app (name ∷ codes "--" ∷ []))

-- Beside help and the version the command has only subcommands without arguments. Each of these is a row, and the command accepts the name
-- of each row.
abbrev pub is_plain_command : {Meaning : Type 0} → App → List (Text × Meaning) → Bool
is_plain_command app table =
    is_simple_and_free app
    && (list_all (is_plain_subcommand (λ name. is_some (meaning_in table name))) (built app).subs
    && (has_requests_alone (built app).top
    && (not (built app).top.disable_help_subcommand
    && (not app.top.no_binary_name && list_all (λ row. is_taken app row.0) table))))
