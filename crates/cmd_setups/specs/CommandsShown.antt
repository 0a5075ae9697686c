-- A card and the commands that wait, as the code stores them, and the states that they show.
use Rattle.std.specs.Prelude.{◌≡◌, ℕ, List, ◌++◌, Bool}
use Rattle.text_io.specs.Words.{is_filled}
use Rattle.cmd_run.specs.RunText.{Card, IsLed}
use Rattle.cmd_run.specs.ShownCard.{ShowsCard}
use Rattle.cmd_setups.specs.CommandsUnderTraffic.{CarriesOutWaiting}
use Rattle.cmd_setups.specs.CountsAtSetup.{AreCountsAtSetup}
use Rattle.cmd_setups.specs.TimedLines.{WaitingCommand}
use Rattle.cmd_setups.specs.declared.timed_card.TimedCard.{TimedCard}
use Rattle.cmd_setups.specs.StoredCommands.{waiting_in}

-- Where a card is after commands.
pub record CarriesTo (before : Card) (waiting : List WaitingCommand) (moment : ℕ) (text : List ℕ) (timed : TimedCard) : Type 0 where
  pub after : Card
  pub led : IsLed after
  pub shown : ShowsCard timed.card after
  pub at_setup : AreCountsAtSetup timed.at_setup.counts.items after.world
  pub carried : CarriesOutWaiting waiting moment before text after (waiting_in timed.commands)

-- The answers grew by the lines of the commands whose moment has come, for each card that was shown, and this is whether there are any.
abbrev pub CarriesShown : TimedCard → ℕ → Bool → TimedCard → List ℕ → List ℕ → Type 0
CarriesShown timed moment carried timed' old new =
    (text : List ℕ) × (new ≡ old ++ text) × (carried ≡ is_filled text)
    × ((before : Card) → IsLed before → ShowsCard timed.card before → AreCountsAtSetup timed.at_setup.counts.items before.world → CarriesTo before (waiting_in timed.commands) moment text timed')
