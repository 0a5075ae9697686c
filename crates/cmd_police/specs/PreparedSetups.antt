-- What a setup script with times and files of rules leads to before any of its lines is carried out: a fault, or a script without both.
use Rattle.std.specs.Prelude.{◌≡◌, ◌⊎◌, ℕ, List, Some, None}
use Rattle.cmd_police.specs.FaultyRules.{HasFaultyRules}
use Rattle.cmd_police.specs.SetupPrograms.{HasPrograms}
use Rattle.cmd_setups.specs.TimedLines.{falling_line, falling_text, without_times}

-- The text names the line of a setup script whose time falls; or no time falls, and the text is about the first rules with a fault.
-- `IsFault` says which lines are the fault line of a text of rules and its explanation.
abbrev pub HasFaultySetup : (List ℕ → List ℕ → List ℕ → Type 0) → List ℕ → List (List ℕ) → List ℕ → Type 0
HasFaultySetup IsFault setup texts text =
    ((number : ℕ) × (falling_line setup ≡ Some number) × (text ≡ falling_text number))
    ⊎ ((falling_line setup ≡ None) × HasFaultyRules IsFault (without_times setup) texts text)

-- No time of a setup script falls, and this script is its lines without their times, with the programs of its rules.
pub record IsPreparedAs (setup : List ℕ) (texts : List (List ℕ)) (script : List ℕ) : Type 0 where
  pub rises : falling_line setup ≡ None
  pub programs : HasPrograms (without_times setup) texts script
