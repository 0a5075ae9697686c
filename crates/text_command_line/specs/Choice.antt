-- The subcommand of `upc` that the command line requests, and the errors of the command line.
use Rattle.std.specs.Prelude.{◌≡◌, ◌⊎◌, List, [], ◌∷◌, Option, Some, MatchOption, codes, false}
use Rattle.clap.specs.Walk.{Text}
use Rattle.clap.specs.Simple.{App}
use Rattle.clap.specs.Kinds.{Kinds}
use Rattle.text_command_line.specs.CommandLines.{kinds_in, subcommand_in}
use Rattle.text_command_line.specs.Subcommands.{IsEnd, app_with, meaning_in, row_names}
use Rattle.text_command_line.specs.declared.choice.Choice.{Choice}
use Rattle.text_command_line.specs.declared.choice.Choice.TheVariants.{Check, Eval, Run, Ports}

-- The name of each subcommand and its choice.
abbrev pub subcommands : List (Text × Choice)
subcommands = (codes "check", Check) ∷ (codes "eval", Eval) ∷ (codes "run", Run) ∷ (codes "ports", Ports) ∷ []

-- The command `upc`: these subcommands, and no option except those for help and the version.
unfoldable pub upc_app : App
upc_app = app_with (codes "upc") false (row_names subcommands)

-- The kinds of error in the words; a request for help or the version is one of them. The list is empty if clap accepts the words.
abbrev pub faults_in : List Text → Kinds
faults_in = kinds_in upc_app

-- The choice with this name.
abbrev pub choice_named : Text → Option Choice
choice_named = meaning_in subcommands

-- The choice with this name, or Eval if there is no name.
abbrev pub IsChoiceOf : Option Text → Choice → Type 0
IsChoiceOf name choice = MatchOption name (choice ≡ Eval) (λ text. choice_named text ≡ Some choice)

-- The choice of the subcommand in the words.
abbrev pub IsChosen : List Text → Choice → Type 0
IsChosen words = IsChoiceOf (subcommand_in upc_app words)

-- The words are the name of a subcommand, or none for `eval`, and nothing more.
abbrev pub NamesSubcommand : List Text → Choice → Type 0
NamesSubcommand words choice = (IsEnd words × (choice ≡ Eval))
    ⊎ ((name : Text) × (rest : List Text) × (words ≡ name ∷ rest) × (choice_named name ≡ Some choice)
    × IsEnd rest)
