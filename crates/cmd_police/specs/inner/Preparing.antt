-- How the code stores a setup script that is prepared.
use Rattle.std.specs.Prelude.{◌≡◌, ℕ, List, unwrap_or}
use Rattle.cmd_police.specs.PreparedSetups.{HasFaultySetup, IsPreparedAs}
use Rattle.cmd_police.specs.RulesFiles.{IsFaultOfRules}
use Rattle.cmd_setups.specs.TimedLines.{line_times, without_times}
use Rattle.cmd_police.specs.declared.preparing.Prepared.{Prepared}
use Rattle.cmd_police.specs.declared.preparing.Prepared.TheVariants.{Faulty, Ready}
use Rattle.cmd_police.specs.declared.preparing.ReadySetup.{ReadySetup}

-- The script that is carried out.
abbrev pub script_of : ReadySetup → List ℕ
script_of ready = (unwrap_or ready.replaced ready.plain).items

-- What is stored is the setup script, prepared, with the times of its lines.
pub record IsReadyFor (setup : List ℕ) (texts : List (List ℕ)) (ready : ReadySetup) : Type 0 where
  pub plain : ready.plain.items ≡ without_times setup
  pub prepared : IsPreparedAs setup texts (script_of ready)
  pub times : ready.times.items ≡ line_times setup

-- What a setup script leads to.
abbrev pub PreparesTo : List ℕ → List (List ℕ) → Prepared → Type 0
PreparesTo setup texts (Faulty text) = HasFaultySetup IsFaultOfRules setup texts text.items
PreparesTo setup texts (Ready ready) = IsReadyFor setup texts ready
