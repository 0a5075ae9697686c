-- The card that a setup script leads to, or its fault.
use Rattle.std.specs.Prelude.{◌⊎◌, ℕ, List, Option, Some, None}
use Rattle.cmd_explain_script.specs.ScriptText.{IsScriptExplained}
use Rattle.text_io.specs.Lines.{lines_of}
use Rattle.text_io.specs.Printing.{EndsAt}
use Rattle.text_io.specs.declared.ending.Done.TheVariants.{Whole, Ended}
use Rattle.cmd_run.specs.RunText.{Card, run_rules}
use Rattle.cmd_setups.specs.TimedLines.{octets_before_times}

-- A script without a fault, which leads to this card.
pub record IsSetUpBy (script : List ℕ) (card : Card) : Type 0 where
  pub explanation : List ℕ
  pub faultless : IsScriptExplained script explanation Whole
  pub answers : List ℕ
  pub reached : EndsAt run_rules 0 None (lines_of script) answers (Some card)

-- The script has no fault, and neither have its lines before the first time, which lead to this card.
pub record IsSetUpAtTimes (script : List ℕ) (times : List (Option ℕ)) (card : Card) : Type 0 where
  pub explanation : List ℕ
  pub faultless : IsScriptExplained script explanation Whole
  pub before : IsSetUpBy (octets_before_times times (lines_of script)) card

-- The text explains a fault of a script, or, if it has none, one of its first lines, `before`.
abbrev pub IsFaultOfEither : List ℕ → List ℕ → List ℕ → Type 0
IsFaultOfEither script before text =
    IsScriptExplained script text Ended
    ⊎ ((explanation : List ℕ) × IsScriptExplained script explanation Whole × IsScriptExplained before text Ended)

-- The text explains a fault of a script whose lines have these times: one of the script, or, if it has none, one of its lines before the
-- first time.
abbrev pub IsFaultAtTimes : List ℕ → List (Option ℕ) → List ℕ → Type 0
IsFaultAtTimes script times text = IsFaultOfEither script (octets_before_times times (lines_of script)) text
