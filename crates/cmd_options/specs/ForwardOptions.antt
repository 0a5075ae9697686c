-- The argument and the options of `upc-lab forward`.
use Rattle.std.specs.Prelude.{Bool, ℕ, List, [], ◌∷◌, Option, Some, None, codes, false, option_and_then, option_map, true}
use Rattle.std.specs.String.{string_bytes}
use Rattle.captures.specs.declared.link.Link.{Link}
use Rattle.clap.specs.Simple.{App}
use Rattle.clap.specs.Walk.{Text}
use Rattle.text_command_line.specs.Arguments.{app_with_rules, argument_rule}
use Rattle.text_command_line.specs.CommandLines.{argument_value}
use Rattle.cmd_options.specs.CellsOptions.{link_rule}
use Rattle.cmd_options.specs.LinkOption.{link_of}
use Rattle.cmd_options.specs.OptionValues.{asked_tick_of, file_name_of, others_of}
use Rattle.cmd_options.specs.PoliceOptions.{asked_tick_rule, setup_rule}
use Rattle.cmd_options.specs.declared.forward.ForwardOptions.{ForwardOptions}

-- The command `upc-lab forward` has the argument SETUP and the options `--tick` and `--link` of `police`, and `--others OTHERS` (pass if it
-- isn't given). Like every command it also has `--help`.
unfoldable pub forward_app : App
forward_app =
    app_with_rules (codes "upc-lab forward") (setup_rule ∷ asked_tick_rule ∷ link_rule ∷ argument_rule (codes "others") true (Some (codes "pass")) false ∷ [])

-- What is asked for: the name of the file with the setup script, the nanoseconds of a tick, if any, the link, if any, and whether records
-- without a judged cell go on.
pub record ForwardAsked : Type 0 where
  pub setup : Text
  pub nanoseconds : Option ℕ
  pub link : Option Link
  pub others : Bool

-- What is asked for, by its parts.
abbrev pub forward_asking : Text → Option ℕ → Option Link → Bool → ForwardAsked
forward_asking setup nanoseconds link others = record { setup = setup; nanoseconds = nanoseconds; link = link; others = others }

-- What options of `forward` ask for.
abbrev pub forward_asked_by : ForwardOptions → ForwardAsked
forward_asked_by options =
    forward_asking (string_bytes options.setup) (option_map (λ tick. tick.nanoseconds) options.tick) options.link options.others

-- What these values spell, if each spells something.
abbrev pub forward_values : Option Text → Option Text → Option Text → Option Text → Option ForwardAsked
forward_values setup tick link others =
    option_and_then (λ name. option_and_then (λ nanoseconds. option_and_then (λ asked.
    option_map (λ which. forward_asking name nanoseconds asked which) (others_of others)) (link_of link)) (asked_tick_of tick)) (file_name_of setup)

-- What the values of the argument and the options in the words spell.
abbrev pub forward_asked : List Text → Option ForwardAsked
forward_asked words = forward_values (argument_value forward_app words (codes "SETUP")) (argument_value forward_app words (codes "tick"))
    (argument_value forward_app words (codes "link")) (argument_value forward_app words (codes "others"))
