-- The answers to values of options.
use Rattle.std.specs.Prelude.{◌≡◌, ⊤, List, Option, Some, None, Result, Ok, Err, codes}
use Rattle.clap.specs.Walk.{Text}
use Rattle.text_command_line.specs.Arguments.{text_named}
use Rattle.text_command_line.specs.declared.stop.Stop.{Stop}
use Rattle.text_command_line.specs.declared.stop.Stop.TheVariants.{Help, Words, NoMemory}
use Rattle.cmd_options.specs.CellsOptions.{CellsAsked, cells_values}
use Rattle.cmd_options.specs.DifferOptions.{DifferAsked, differ_values}
use Rattle.cmd_options.specs.ExplainOptions.{ExplainAsked, explain_values}
use Rattle.cmd_options.specs.FitOptions.{FitAsked, fit_values}
use Rattle.cmd_options.specs.ForwardOptions.{ForwardAsked, forward_values}
use Rattle.cmd_options.specs.PoliceOptions.{PoliceAsked, police_values}
use Rattle.cmd_options.specs.WhyOptions.{WhyAsked, why_values}

-- No request for help or the version.
abbrev pub IsWrongValue : Stop → Type 0
IsWrongValue (Help text) = ⊥
IsWrongValue _ = ⊤

-- The options that values spell, or words about a wrong one.
abbrev pub AnswersValues : {Asked Options : Type 0} → (Options → Asked) → Option Asked → Result Options Stop → Type 0
AnswersValues asked_by spelled (Ok options) = spelled ≡ Some (asked_by options)
AnswersValues asked_by spelled (Err (Help text)) = ⊥
AnswersValues asked_by spelled (Err (Words text)) = spelled ≡ None
AnswersValues asked_by spelled (Err NoMemory) = ⊤

-- What named values of `cells` spell.
abbrev pub cells_spelled : List (Text × Option Text) → Option CellsAsked
cells_spelled texts = cells_values (text_named texts (codes "tick")) (text_named texts (codes "link")) (text_named texts (codes "time")) (text_named texts (codes "record"))

-- What named values of `fit` spell.
abbrev pub fit_spelled : List (Text × Option Text) → Option FitAsked
fit_spelled texts = fit_values (text_named texts (codes "increment")) (text_named texts (codes "tick")) (text_named texts (codes "link")) (text_named texts (codes "time"))
    (text_named texts (codes "side")) (text_named texts (codes "paths")) (text_named texts (codes "clp")) (text_named texts (codes "rules"))

-- What named values of `police` spell.
abbrev pub police_spelled : List (Text × Option Text) → Option PoliceAsked
police_spelled texts = police_values (text_named texts (codes "SETUP")) (text_named texts (codes "tick")) (text_named texts (codes "link")) (text_named texts (codes "time"))
    (text_named texts (codes "lines")) (text_named texts (codes "every")) (text_named texts (codes "why")) (text_named texts (codes "threads"))

-- What named values of `differ` spell.
abbrev pub differ_spelled : List (Text × Option Text) → Option DifferAsked
differ_spelled texts = differ_values (text_named texts (codes "OLD")) (text_named texts (codes "lines")) (text_named texts (codes "program"))

-- What named values of `forward` spell.
abbrev pub forward_spelled : List (Text × Option Text) → Option ForwardAsked
forward_spelled texts = forward_values (text_named texts (codes "SETUP")) (text_named texts (codes "tick")) (text_named texts (codes "link"))
    (text_named texts (codes "others"))

-- What named values of `why` spell.
abbrev pub why_spelled : List (Text × Option Text) → Option WhyAsked
why_spelled texts = why_values (text_named texts (codes "count"))

-- What named values of `explain` spell.
abbrev pub explain_spelled : List (Text × Option Text) → Option ExplainAsked
explain_spelled texts = explain_values (text_named texts (codes "setup"))
