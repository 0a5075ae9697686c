-- A card and the commands that wait, as they are stored, and what they show.
use Rattle.std.specs.Prelude.{◌≡◌, List, drop, map}
use Rattle.cmd_run.specs.RunText.{Card}
use Rattle.cmd_run.specs.ShownCard.{ShowsCard}
use Rattle.cmd_setups.specs.CountsAtSetup.{AreCountsAtSetup}
use Rattle.cmd_setups.specs.TimedLines.{WaitingCommand}
use Rattle.cmd_setups.specs.declared.stored_commands.StoredCommand.{StoredCommand}
use Rattle.cmd_setups.specs.declared.stored_commands.StoredCommands.{StoredCommands}
use Rattle.cmd_setups.specs.declared.timed_card.TimedCard.{TimedCard}

-- A command that waits, as it is stored.
abbrev pub shown_command : StoredCommand → WaitingCommand
shown_command command = record { moment = command.moment; content = command.content.items }

-- The commands that are left.
abbrev pub waiting_in : StoredCommands → List WaitingCommand
waiting_in commands = map shown_command (drop commands.next commands.all.items)

-- The stored card shows this card, with what its lines had counted at the setups, and these commands are left.
pub record ShowsTimed (timed : TimedCard) (card : Card) (waiting : List WaitingCommand) : Type 0 where
  pub held : ShowsCard timed.card card
  pub at_setup : AreCountsAtSetup timed.at_setup.counts.items card.world
  pub waits : waiting_in timed.commands ≡ waiting
