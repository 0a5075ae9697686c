-- A card that a setup script leads to, as the code stores it.
use Rattle.std.specs.Prelude.{List, ℕ, Option}
use Rattle.text_io.specs.Lines.{lines_of}
use Rattle.cmd_run.specs.RunText.{Card, IsLed}
use Rattle.cmd_setups.specs.SetUpScripts.{IsFaultAtTimes, IsSetUpAtTimes}
use Rattle.cmd_setups.specs.TimedLines.{waiting_at}
use Rattle.cmd_setups.specs.declared.setting_up.SetUp.{SetUp}
use Rattle.cmd_setups.specs.declared.setting_up.SetUp.TheVariants.{Faulty, Ready}
use Rattle.cmd_setups.specs.declared.timed_card.TimedCard.{TimedCard}
use Rattle.cmd_setups.specs.StoredCommands.{ShowsTimed}

-- The same of a script whose lines have these times, with the commands that wait.
pub record IsTimedAs (tick : ℕ) (script : List ℕ) (times : List (Option ℕ)) (timed : TimedCard) : Type 0 where
  pub card : Card
  pub reached : IsSetUpAtTimes script times card
  pub led : IsLed card
  pub shown : ShowsTimed timed card (waiting_at tick times (lines_of script))

-- What a setup script leads to.
abbrev pub LeadsScriptTo : ℕ → List ℕ → List (Option ℕ) → SetUp → Type 0
LeadsScriptTo tick script times (Faulty text) = IsFaultAtTimes script times text.items
LeadsScriptTo tick script times (Ready timed) = IsTimedAs tick script times timed
