-- A script without a fault, and its card.
use Rattle.std.specs.Prelude.{List, ℕ}
use Rattle.cmd_explain_script.specs.ScriptText.{IsScriptExplained}
use Rattle.text_io.specs.declared.ending.Done.TheVariants.{Whole}
use Rattle.line_record.specs.declared.tally.Tally.{Tally}
use Rattle.cmd_run.specs.RunText.{Card, IsLed}
use Rattle.cmd_run.specs.ShownCard.{Held, ShowsCard}
use Rattle.cmd_setups.specs.SetUpScripts.{IsSetUpBy}
use Rattle.cmd_setups.specs.CountsAtSetup.{AreCountsAtSetup}

-- The script has no fault.
abbrev pub RunsWhole : List ℕ → Type 0
RunsWhole script = (explanation : List ℕ) × IsScriptExplained script explanation Whole

-- The stored card shows a card that the script leads to, and that a log leads to, and these are what its lines had counted at the setups.
pub record IsSetUpAs (script : List ℕ) (held : Held) (noted : List Tally) : Type 0 where
  pub card : Card
  pub reached : IsSetUpBy script card
  pub led : IsLed card
  pub shown : ShowsCard held card
  pub at_setup : AreCountsAtSetup noted card.world
