-- The subcommand of `upc-lab` that the command line names, and the errors of the command line, by clap's definitions for a simple
-- command.
use Rattle.std.specs.Prelude.{◌≡◌, List, [], ◌∷◌, ◌++◌, Option, Some, None, true, drop, codes, map}
use Rattle.clap.specs.Walk.{Text}
use Rattle.clap.specs.Simple.{App}
use Rattle.clap.specs.Kinds.{Kinds}
use Rattle.text_command_line.specs.CommandLines.{kinds_in}
use Rattle.text_command_line.specs.Stopping.{StopsAt}
use Rattle.text_command_line.specs.Subcommands.{NamesRow, app_with, meaning_in, row_names}
use Rattle.text_command_line.specs.declared.stop.Stop.{Stop}
use Rattle.cmd_options.specs.CellsOptions.{cells_app, cells_asked, cells_asked_by}
use Rattle.cmd_options.specs.DifferOptions.{differ_app, differ_asked, differ_asked_by}
use Rattle.cmd_options.specs.ExplainOptions.{explain_app, explain_asked, explain_asked_by}
use Rattle.cmd_options.specs.FitOptions.{asked_by, fit_app, fit_asked}
use Rattle.cmd_options.specs.ForwardOptions.{forward_app, forward_asked, forward_asked_by}
use Rattle.cmd_options.specs.OptionAnswers.{Asks, IsOptionStop}
use Rattle.cmd_options.specs.PoliceOptions.{police_app, police_asked, police_asked_by}
use Rattle.cmd_options.specs.WhyOptions.{why_app, why_asked, why_asked_by}
use Rattle.cmd_options.specs.declared.choice.Asked.{Asked}
use Rattle.cmd_options.specs.declared.choice.Asked.TheVariants.{Plain, Why, Cells, Fit, Police, Differ, Forward, Explain}
use Rattle.cmd_options.specs.declared.choice.Subcommand.{Subcommand}
use Rattle.cmd_options.specs.declared.choice.Subcommand.TheVariants as lab
use Rattle.cmd_options.specs.declared.help_words.WithOptions.{WithOptions}
use Rattle.cmd_options.specs.declared.help_words.WithOptions.TheVariants as own

-- The name of each subcommand without options: those for rules, those for programs, that for contracts, and that for
-- the links of a capture.
abbrev pub lab_subcommands : List (Text × Subcommand)
lab_subcommands =
    (codes "rules", lab.Rules) ∷ (codes "asm", lab.Asm) ∷ (codes "unused", lab.Unused) ∷ (codes "list", lab.List)
    ∷ (codes "trace", lab.Trace) ∷ (codes "size", lab.Size) ∷ (codes "links", lab.Links) ∷ []

-- The name of each subcommand with options.
abbrev pub own_subcommands : List (Text × WithOptions)
own_subcommands =
    (codes "why", own.Why) ∷ (codes "cells", own.Cells) ∷ (codes "fit", own.Fit) ∷ (codes "police", own.Police)
    ∷ (codes "forward", own.Forward) ∷ (codes "differ", own.Differ) ∷ (codes "explain", own.Explain) ∷ []

-- Each subcommand of the command. Those with options, which mean nothing here, have a command of their own: words that
-- begin with the name of one are read by it.
abbrev pub lab_table : List (Text × Option Subcommand)
lab_table =
    map (λ row. (row.0, Some row.1)) lab_subcommands ++ map (λ row. (row.0, None)) own_subcommands

-- The command `upc-lab`: these subcommands, of which it wants one, and no option except those for help and the version.
unfoldable pub lab_app : App
lab_app = app_with (codes "upc-lab") true (row_names lab_table)

-- The kinds of error in the words; a request for help or the version is one of them. The list is empty if clap accepts the words.
abbrev pub lab_faults_in : List Text → Kinds
lab_faults_in = kinds_in lab_app

-- The words are the name of this subcommand, and nothing more.
abbrev pub NamesLab : List Text → Subcommand → Type 0
NamesLab = NamesRow lab_subcommands

-- The subcommand with options that has this name.
abbrev pub with_options_named : Text → Option WithOptions
with_options_named = meaning_in own_subcommands

-- The subcommand with options with whose name the words begin, if they do.
abbrev pub begun_by : List Text → Option WithOptions
begun_by [] = None
begun_by (word ∷ words) = with_options_named word

-- The words ask for this: after the name of a subcommand with options there are its options, and other words name a subcommand without
-- options.
abbrev pub AsksLab : List Text → Asked → Type 0
AsksLab words (Plain subcommand) = (begun_by words ≡ None) × NamesLab words subcommand
AsksLab words (Why options) = (begun_by words ≡ Some own.Why) × Asks why_app why_asked (drop 1 words) (why_asked_by options)
AsksLab words (Cells options) = (begun_by words ≡ Some own.Cells) × Asks cells_app cells_asked (drop 1 words) (cells_asked_by options)
AsksLab words (Fit options) = (begun_by words ≡ Some own.Fit) × Asks fit_app fit_asked (drop 1 words) (asked_by options)
AsksLab words (Police options) = (begun_by words ≡ Some own.Police) × Asks police_app police_asked (drop 1 words) (police_asked_by options)
AsksLab words (Forward options) = (begun_by words ≡ Some own.Forward) × Asks forward_app forward_asked (drop 1 words) (forward_asked_by options)
AsksLab words (Differ options) = (begun_by words ≡ Some own.Differ) × Asks differ_app differ_asked (drop 1 words) (differ_asked_by options)
AsksLab words (Explain options) = (begun_by words ≡ Some own.Explain) × Asks explain_app explain_asked (drop 1 words) (explain_asked_by options)

-- The Stops that words may give which begin with the name of this subcommand with options, or with no such name.
abbrev pub IsStopOf : Option WithOptions → List Text → Stop → Type 0
IsStopOf None words stop = StopsAt (lab_faults_in words) stop
IsStopOf (Some own.Why) words stop = IsOptionStop why_app why_asked (drop 1 words) stop
IsStopOf (Some own.Cells) words stop = IsOptionStop cells_app cells_asked (drop 1 words) stop
IsStopOf (Some own.Fit) words stop = IsOptionStop fit_app fit_asked (drop 1 words) stop
IsStopOf (Some own.Police) words stop = IsOptionStop police_app police_asked (drop 1 words) stop
IsStopOf (Some own.Forward) words stop = IsOptionStop forward_app forward_asked (drop 1 words) stop
IsStopOf (Some own.Differ) words stop = IsOptionStop differ_app differ_asked (drop 1 words) stop
IsStopOf (Some own.Explain) words stop = IsOptionStop explain_app explain_asked (drop 1 words) stop

-- The Stops that words may give. NoMemory is always allowed.
abbrev pub IsLabStop : List Text → Stop → Type 0
IsLabStop words stop = IsStopOf (begun_by words) words stop
