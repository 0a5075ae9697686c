-- The argument and the options of `upc-lab police`.
use Rattle.std.specs.Prelude.{Bool, ℕ, List, [], ◌∷◌, Option, Some, None, codes, false, option_and_then, option_map, true}
use Rattle.std.specs.String.{string_bytes}
use Rattle.captures.specs.declared.link.Link.{Link}
use Rattle.captures.specs.declared.packet_time.TimeSource.{TimeSource}
use Rattle.clap.specs.Simple.{App}
use Rattle.clap.specs.Walk.{Rule, Text}
use Rattle.text_command_line.specs.Arguments.{app_with_rules, argument_rule, flag_rule}
use Rattle.text_command_line.specs.CommandLines.{argument_value}
use Rattle.captures_text.specs.declared.line_choice.LineChoice.{LineChoice}
use Rattle.cmd_options.specs.CellsOptions.{link_rule, time_rule}
use Rattle.cmd_options.specs.LinkOption.{link_of}
use Rattle.cmd_options.specs.OptionValues.{asked_tick_of, line_choice_of, every_of, file_name_of, is_given, threads_of, timing_of}
use Rattle.cmd_options.specs.declared.police.PoliceOptions.{PoliceOptions}

-- The argument SETUP, which must be given.
abbrev pub setup_rule : Rule
setup_rule = argument_rule (codes "SETUP") false None true

-- The option `--tick TIME`. Without it the tick is the one that the setup script names.
abbrev pub asked_tick_rule : Rule
asked_tick_rule = argument_rule (codes "tick") true None false

-- The command `upc-lab police` has the argument SETUP and the options `--tick`, `--link` and `--time` (the last two are those of `cells`),
-- `--lines LINES` (all if it isn't given), `--every TIME` (no spans are written if it isn't given), `--why`, and `--threads N` (2 if it
-- isn't given). Like every command it also has `--help`.
unfoldable pub police_app : App
police_app = app_with_rules (codes "upc-lab police") (setup_rule ∷ asked_tick_rule ∷ link_rule ∷ time_rule
    ∷ argument_rule (codes "lines") true (Some (codes "all")) false ∷ argument_rule (codes "every") true None false ∷ flag_rule (codes "why")
    ∷ argument_rule (codes "threads") true (Some (codes "2")) false ∷ [])

-- What is asked for: the name of the file with the setup script, the nanoseconds of a tick, if any, the link, if any,
-- which time of a record counts, which cells have lines, the nanoseconds of a span, if any, whether lines show rules, and the number of
-- threads.
pub record PoliceAsked : Type 0 where
  pub setup : Text
  pub nanoseconds : Option ℕ
  pub link : Option Link
  pub timing : TimeSource
  pub lines : LineChoice
  pub every : Option ℕ
  pub why : Bool
  pub threads : ℕ

-- What is asked for, by its parts.
abbrev pub police_asking : Text → Option ℕ → Option Link → TimeSource → LineChoice → Option ℕ → Bool → ℕ → PoliceAsked
police_asking setup nanoseconds link timing lines every why threads =
    record { setup = setup; nanoseconds = nanoseconds; link = link; timing = timing; lines = lines; every = every; why = why; threads = threads }

-- What options of `police` ask for.
abbrev pub police_asked_by : PoliceOptions → PoliceAsked
police_asked_by options = police_asking (string_bytes options.setup) (option_map (λ tick. tick.nanoseconds) options.tick) options.link options.timing
    options.lines options.every options.why options.threads

-- What these values spell, if each spells something.
abbrev pub police_values : Option Text → Option Text → Option Text → Option Text → Option Text → Option Text → Option Text → Option Text → Option PoliceAsked
police_values setup tick link timing lines every why threads =
    option_and_then (λ name. option_and_then (λ nanoseconds. option_and_then (λ asked. option_and_then (λ source. option_and_then (λ which. option_and_then (λ span.
    option_map (λ number. police_asking name nanoseconds asked source which span (is_given why) number)
    (threads_of threads)) (every_of every)) (line_choice_of lines)) (timing_of timing)) (link_of link)) (asked_tick_of tick)) (file_name_of setup)

-- What the values of the argument and the options in the words spell.
abbrev pub police_asked : List Text → Option PoliceAsked
police_asked words = police_values (argument_value police_app words (codes "SETUP")) (argument_value police_app words (codes "tick"))
    (argument_value police_app words (codes "link")) (argument_value police_app words (codes "time")) (argument_value police_app words (codes "lines")) (argument_value police_app words (codes "every"))
    (argument_value police_app words (codes "why")) (argument_value police_app words (codes "threads"))
