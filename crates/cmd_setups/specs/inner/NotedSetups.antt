-- The setups of a script, noted as they are carried out.
use Rattle.std.specs.Prelude.{◌≡◌, ℕ, ◌==◌, if◌then◌else◌, List, ◌++◌, Option, Some, None}
use Rattle.card_core.specs.World.{Connection, World, connection_in}
use Rattle.line_record.specs.Tally.{tally_of}
use Rattle.line_record.specs.declared.tally.Tally.{Tally}
use Rattle.text_script.specs.ScriptCommands.{Command, load, retire, setup, reload, release, cut, cell, command_of}
use Rattle.text_io.specs.Words.{words_of}
use Rattle.upc_cell.specs.declared.vc.Vc.{Vc}
use Rattle.cmd_run.specs.RunText.{Card, IsLed, RunWorld}
use Rattle.cmd_run.specs.ShownCard.{Held, ShowsCard}
use Rattle.cmd_setups.specs.CountsAtSetup.{AreCountsAtSetup, counts_of_line}

-- The connection that a command sets up.
abbrev pub set_up_by : Option Command → Option Vc
set_up_by None = None
set_up_by (Some (load digits)) = None
set_up_by (Some (retire number)) = None
set_up_by (Some (setup vc number wanted)) = Some vc
set_up_by (Some (reload vc number)) = None
set_up_by (Some (release vc)) = None
set_up_by (Some (cut vc)) = None
set_up_by (Some (cell moment digits)) = None

-- If the command sets up a connection, it is this one.
abbrev pub IsSetupOf : Option Command → Option Vc → Type 0
IsSetupOf command found = (vc : Vc) → set_up_by command ≡ Some vc → found ≡ Some vc

-- If the command sets up a connection that the card doesn't have, it is this one. The card doesn't have this one.
pub record IsNewIn (world : World) (command : Option Command) (found : Option Vc) : Type 0 where
  pub known : (vc : Vc) → set_up_by command ≡ Some vc → connection_in world.connections vc ≡ None → found ≡ Some vc
  pub absent : (vc : Vc) → found ≡ Some vc → connection_in world.connections vc ≡ None

-- The list has these counts for a line, and the same for others.
abbrev pub SetsCounts : List Tally → ℕ → Tally → List Tally → Type 0
SetsCounts old line counts new = (number : ℕ) → counts_of_line new number ≡ (if number == line then counts else counts_of_line old number)

-- The present counts of the line of this connection are those at the setup, if there is such a connection.
abbrev pub NotesLine : World → Option Connection → List Tally → List Tally → Type 0
NotesLine world None old new = new ≡ old
NotesLine world (Some connection) old new = SetsCounts old connection.line (tally_of (world.verdicts connection.line)) new

-- The same of a connection, if there is one.
abbrev pub NotesSetup : World → Option Vc → List Tally → List Tally → Type 0
NotesSetup world None old new = new ≡ old
NotesSetup world (Some vc) old new = NotesLine world (connection_in world.connections vc) old new

-- For each card that was shown with what its lines had counted at the setups, this text leads to a card that is shown so.
abbrev pub MovesNotingBy : (Card → List ℕ → Card → Type 0) → Held → List Tally → List ℕ → Held → List Tally → Type 0
MovesNotingBy Goes held at_setup text held' at_setup' = (before : Card) → IsLed before → ShowsCard held before → AreCountsAtSetup at_setup before.world
    → (after : Card) × ShowsCard held' after × AreCountsAtSetup at_setup' after.world × Goes before text after

-- The answers grew by such a text.
abbrev pub MovesNoting : (Card → List ℕ → Card → Type 0) → Held → List Tally → Held → List Tally → List ℕ → List ℕ → Type 0
MovesNoting Goes held at_setup held' at_setup' old new = (text : List ℕ) × (new ≡ old ++ text) × MovesNotingBy Goes held at_setup text held' at_setup'

-- What the lines of the card of a run had counted at the setups. Without a card there is nothing to record.
abbrev pub AreRunCountsAtSetup : List Tally → RunWorld → Type 0
AreRunCountsAtSetup at_setup None = Unit {0}
AreRunCountsAtSetup at_setup (Some card) = AreCountsAtSetup at_setup card.world

-- The connection that a line sets up, if there is a card and it doesn't have the connection.
abbrev pub IsNewInRun : RunWorld → List ℕ → Option Vc → Type 0
IsNewInRun None content found = found ≡ None
IsNewInRun (Some card) content found = IsNewIn card.world (command_of card.world.shape.side (words_of content)) found

-- A setup of this connection is noted, if there is a card.
abbrev pub NotesInRun : RunWorld → Option Vc → List Tally → List Tally → Type 0
NotesInRun None vc old new = new ≡ old
NotesInRun (Some card) vc old new = NotesSetup card.world vc old new
