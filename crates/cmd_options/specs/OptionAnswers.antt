-- What words with options ask for. `app` is their command, and `spelled` what the values of its arguments spell, if each spells something.
use Rattle.std.specs.Prelude.{◌≡◌, ◌⊎◌, ⊤, List, [], Option, Some, None, Result, IfErr, IfOk}
use Rattle.clap.specs.Simple.{App}
use Rattle.clap.specs.Walk.{Text}
use Rattle.text_command_line.specs.CommandLines.{kinds_in}
use Rattle.text_command_line.specs.Stopping.{AsksHelp, IsFaulty}
use Rattle.text_command_line.specs.declared.stop.Stop.{Stop}
use Rattle.text_command_line.specs.declared.stop.Stop.TheVariants.{Help, Words, NoMemory}

-- The words have no error for clap, and ask for this.
pub record Asks {Asked : Type 0} (app : App) (spelled : List Text → Option Asked) (words : List Text) (asked : Asked) : Type 0 where
  pub faultless : kinds_in app words ≡ []
  pub values : spelled words ≡ Some asked

-- The Stops that words may give. NoMemory is always allowed.
abbrev pub IsOptionStop : {Asked : Type 0} → App → (List Text → Option Asked) → List Text → Stop → Type 0
IsOptionStop app spelled words (Help text) = AsksHelp (kinds_in app words)
IsOptionStop app spelled words (Words text) = IsFaulty (kinds_in app words) ⊎ (spelled words ≡ None)
IsOptionStop app spelled words NoMemory = ⊤

-- The answer to words with options. `asked_by` says what options ask for.
pub record AnswersWords {Asked Options : Type 0} (app : App) (spelled : List Text → Option Asked) (asked_by : Options → Asked) (words : List Text)
    (answer : Result Options Stop) : Type 0 where
  -- Options ask for what the words ask for.
  pub asked : IfOk answer (λ options. Asks app spelled words (asked_by options))
  -- A Stop is one that the words may give.
  pub stopped : IfErr answer (IsOptionStop app spelled words)
  -- Words that ask for something have options, unless an allocation fails.
  pub granted : (asked : Asked) → Asks app spelled words asked → IfErr answer (λ stop. stop ≡ NoMemory)
