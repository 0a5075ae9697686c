-- The argument and the options of `upc-lab differ`.
use Rattle.std.specs.Prelude.{Bool, List, [], ◌∷◌, Option, Some, None, codes, false, if◌then◌else◌, option_and_then, option_map, true}
use Rattle.std.specs.Str.{bytes_eq}
use Rattle.std.specs.String.{string_bytes}
use Rattle.clap.specs.Simple.{App}
use Rattle.clap.specs.Walk.{Text}
use Rattle.text_command_line.specs.Arguments.{app_with_rules, argument_rule}
use Rattle.text_command_line.specs.CommandLines.{argument_value}
use Rattle.cmd_options.specs.OptionValues.{pairs_of, file_name_of, one_of_two}
use Rattle.cmd_options.specs.declared.differ.DifferOptions.{DifferOptions}
use Rattle.cmd_options.specs.declared.programs.Programs.{Programs}
use Rattle.cmd_options.specs.declared.programs.Programs.TheVariants as which

-- The command `upc-lab differ` has the argument OLD, which must be given, and the options `--lines LINES` (changed if it isn't given) and
-- `--program WHICH`. Like every command it also has `--help`.
unfoldable pub differ_app : App
differ_app = app_with_rules (codes "upc-lab differ") (argument_rule (codes "OLD") false None true
    ∷ argument_rule (codes "lines") true (Some (codes "changed")) false ∷ argument_rule (codes "program") true None false ∷ [])

-- Which texts a word says to be programs.
abbrev pub programs_named : Text → Option Programs
programs_named word =
    if bytes_eq word (codes "old") then Some which.Old else one_of_two (codes "new") which.New (codes "both") which.Both word

-- Which texts are said to be programs. Without a word both are rules.
abbrev pub programs_of : Option Text → Option Programs
programs_of None = Some which.Neither
programs_of (Some word) = programs_named word

-- What is asked for: the name of the file with the old text, whether pairs of lines whose values agree are listed too, and which texts are
-- programs.
pub record DifferAsked : Type 0 where
  pub old : Text
  pub all : Bool
  pub programs : Programs

-- What options of `differ` ask for.
abbrev pub differ_asked_by : DifferOptions → DifferAsked
differ_asked_by options = record { old = string_bytes options.old; all = options.all; programs = options.programs }

-- What these values spell, if each spells something.
abbrev pub differ_values : Option Text → Option Text → Option Text → Option DifferAsked
differ_values old pairs program =
    option_and_then (λ name. option_and_then (λ all. option_map (λ programs. record { old = name; all = all; programs = programs })
    (programs_of program)) (pairs_of pairs)) (file_name_of old)

-- What the values of the argument and the options in the words spell.
abbrev pub differ_asked : List Text → Option DifferAsked
differ_asked words = differ_values (argument_value differ_app words (codes "OLD")) (argument_value differ_app words (codes "lines"))
    (argument_value differ_app words (codes "program"))
