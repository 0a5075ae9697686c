-- The options of `upc-lab cells`.
use Rattle.std.specs.Prelude.{ℕ, Bool, List, [], ◌∷◌, Option, Some, None, codes, false, option_and_then, option_map, true}
use Rattle.captures.specs.declared.link.Link.{Link}
use Rattle.captures.specs.declared.packet_time.TimeSource.{TimeSource}
use Rattle.clap.specs.Simple.{App}
use Rattle.clap.specs.Walk.{Rule, Text}
use Rattle.text_command_line.specs.Arguments.{app_with_rules, argument_rule, flag_rule}
use Rattle.text_command_line.specs.CommandLines.{argument_value}
use Rattle.cmd_options.specs.LinkOption.{link_of}
use Rattle.cmd_options.specs.OptionValues.{is_given, tick_of, timing_of}
use Rattle.cmd_options.specs.declared.cells.CellsOptions.{CellsOptions}

-- The option `--tick TIME`, whose value is 100ns if it isn't given.
abbrev pub tick_rule : Rule
tick_rule = argument_rule (codes "tick") true (Some (codes "100ns")) false

-- The option `--link LINK`.
abbrev pub link_rule : Rule
link_rule = argument_rule (codes "link") true None false

-- The option `--time TIME`, whose value is record if it isn't given.
abbrev pub time_rule : Rule
time_rule = argument_rule (codes "time") true (Some (codes "record")) false

-- The command `upc-lab cells` has the options `--tick`, `--link`, `--time` and `--record`. Like every command it also has `--help`.
unfoldable pub cells_app : App
cells_app = app_with_rules (codes "upc-lab cells") (tick_rule ∷ link_rule ∷ time_rule ∷ flag_rule (codes "record") ∷ [])

-- What is asked for: the nanoseconds of a tick, the link, if any, which time of a record counts, and whether each cell
-- comes after the number of its record.
pub record CellsAsked : Type 0 where
  pub nanoseconds : ℕ
  pub link : Option Link
  pub timing : TimeSource
  pub numbered : Bool

-- What is asked for, by its parts.
abbrev pub cells_asking : ℕ → Option Link → TimeSource → Bool → CellsAsked
cells_asking nanoseconds link timing numbered = record { nanoseconds = nanoseconds; link = link; timing = timing; numbered = numbered }

-- What options of `cells` ask for.
abbrev pub cells_asked_by : CellsOptions → CellsAsked
cells_asked_by options = cells_asking options.tick.nanoseconds options.link options.timing options.numbered

-- What these values spell, if each spells something.
abbrev pub cells_values : Option Text → Option Text → Option Text → Option Text → Option CellsAsked
cells_values tick link timing numbered =
    option_and_then (λ nanoseconds. option_and_then (λ asked. option_map (λ source. cells_asking nanoseconds asked source (is_given numbered))
    (timing_of timing)) (link_of link)) (tick_of tick)

-- What the values of the options in the words spell.
abbrev pub cells_asked : List Text → Option CellsAsked
cells_asked words = cells_values (argument_value cells_app words (codes "tick")) (argument_value cells_app words (codes "link"))
    (argument_value cells_app words (codes "time")) (argument_value cells_app words (codes "record"))
