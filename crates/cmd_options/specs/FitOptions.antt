-- The options of `upc-lab fit`.
use Rattle.std.specs.Prelude.{ℕ, List, [], ◌∷◌, Option, Some, None, codes, false, option_and_then, option_map, true}
use Rattle.captures.specs.declared.link.Link.{Link}
use Rattle.captures.specs.declared.packet_time.TimeSource.{TimeSource}
use Rattle.std.specs.String.{string_bytes}
use Rattle.clap.specs.Simple.{App}
use Rattle.clap.specs.Walk.{Text}
use Rattle.text_command_line.specs.Arguments.{app_with_rules, argument_rule, flag_rule}
use Rattle.text_command_line.specs.CommandLines.{argument_value}
use Rattle.cmd_options.specs.CellsOptions.{link_rule, tick_rule, time_rule}
use Rattle.cmd_options.specs.LinkOption.{link_of}
use Rattle.cmd_options.specs.OptionValues.{asked_clp_of, asked_file_of, fit_increment_of, fit_side_of, tick_of, timing_of}
use Rattle.cmd_options.specs.declared.fit.FitOptions.{FitOptions}
use Rattle.upc_cell.specs.declared.side.Side.{Side}

-- The command `upc-lab fit` has the option `--increment T`, which must be given, the options `--tick`, `--link` and `--time` of `cells`,
-- and `--side SIDE` (uni if it isn't given), `--paths`, `--clp CLP` and `--rules FILE`. Like every command it also has `--help`.
unfoldable pub fit_app : App
fit_app = app_with_rules (codes "upc-lab fit") (argument_rule (codes "increment") true None true ∷ tick_rule ∷ link_rule ∷ time_rule
    ∷ argument_rule (codes "side") true (Some (codes "uni")) false ∷ flag_rule (codes "paths") ∷ argument_rule (codes "clp") true None false
    ∷ argument_rule (codes "rules") true None false ∷ [])

-- What is asked for: the increment in ticks, the nanoseconds of a tick, the link, if any, which time of a record
-- counts, the side, the cell loss priority, if any, and the name of the file with rules, if any.
pub record FitAsked : Type 0 where
  pub increment : ℕ
  pub nanoseconds : ℕ
  pub link : Option Link
  pub timing : TimeSource
  pub side : Side
  pub clp : Option ℕ
  pub rules : Option Text

-- What is asked for, by its parts.
abbrev pub fit_asking : ℕ → ℕ → Option Link → TimeSource → Side → Option ℕ → Option Text → FitAsked
fit_asking increment nanoseconds link timing side clp rules =
    record { increment = increment; nanoseconds = nanoseconds; link = link; timing = timing; side = side; clp = clp; rules = rules }

-- What options of `fit` ask for.
abbrev pub asked_by : FitOptions → FitAsked
asked_by options = fit_asking options.choice.increment options.choice.tick.nanoseconds options.choice.link options.choice.timing
    options.choice.side options.choice.clp (option_map string_bytes options.rules)

-- What these values spell, if each spells something.
abbrev pub fit_values : Option Text → Option Text → Option Text → Option Text → Option Text → Option Text → Option Text → Option Text → Option FitAsked
fit_values increment tick link timing side paths clp rules =
    option_and_then (λ ticks. option_and_then (λ nanoseconds. option_and_then (λ asked. option_and_then (λ source. option_and_then (λ at. option_and_then (λ priority.
    option_map (λ name. fit_asking ticks nanoseconds asked source at priority name)
    (asked_file_of rules)) (asked_clp_of clp)) (fit_side_of side paths)) (timing_of timing)) (link_of link)) (tick_of tick)) (fit_increment_of increment)

-- What the values of the options in the words spell.
abbrev pub fit_asked : List Text → Option FitAsked
fit_asked words = fit_values (argument_value fit_app words (codes "increment")) (argument_value fit_app words (codes "tick"))
    (argument_value fit_app words (codes "link")) (argument_value fit_app words (codes "time")) (argument_value fit_app words (codes "side")) (argument_value fit_app words (codes "paths"))
    (argument_value fit_app words (codes "clp")) (argument_value fit_app words (codes "rules"))
