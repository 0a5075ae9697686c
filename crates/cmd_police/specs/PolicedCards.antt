-- The card of a setup script, for programs that ask it cell by cell how each goes on.
use Rattle.std.specs.Prelude.{◌≡◌, ◌⊎◌, ℕ, List, [], ◌++◌, Option}
use Rattle.captures.specs.declared.fault.Fault.{Fault}
use Rattle.card_core.specs.declared.answer.Answer.{Answer}
use Rattle.captures_text.specs.RunLines.{closing_lines}
use Rattle.captures_text.specs.declared.captured_cell.CapturedCell.{CapturedCell}
use Rattle.captures_text.specs.declared.reading_summary.ReadingSummary.{ReadingSummary}
use Rattle.leaky.specs.declared.verdict.Verdict.{Verdict}
use Rattle.text_io.specs.Lines.{lines_of}
use Rattle.text_io.specs.Words.{is_filled}
use Rattle.cmd_run.specs.RunText.{Card, IsLed}
use Rattle.cmd_setups.specs.CommandsUnderTraffic.{CarriesOutWaiting, waiting_comment}
use Rattle.cmd_setups.specs.ConnectionCounts.{counts_heading, counts_lines}
use Rattle.cmd_setups.specs.NotJudgedCells.{all_judged, not_judged_after, not_judged_lines}
use Rattle.cmd_setups.specs.Columns.{verdict_given}
use Rattle.cmd_setups.specs.SetUpScripts.{IsFaultAtTimes, IsSetUpAtTimes}
use Rattle.cmd_setups.specs.CellsTaken.{TakesCellWithRoom}
use Rattle.cmd_police.specs.PoliceText.{police_gap}
use Rattle.cmd_police.specs.PreparedSetups.{HasFaultySetup, IsPreparedAs}
use Rattle.cmd_police.specs.RulesFiles.{IsFaultOfRules}
use Rattle.cmd_setups.specs.RunComments.{run_comments}
use Rattle.cmd_setups.specs.TimedLines.{WaitingCommand, line_times, waiting_at}
use Rattle.cmd_setups.specs.declared.not_judged.NotJudged.{NotJudged}
use Rattle.cmd_police.specs.declared.policed_card.OpenedCard.{OpenedCard}
use Rattle.cmd_police.specs.declared.policed_card.OpenedCard.TheVariants.{Faulty, Ready}
use Rattle.cmd_police.specs.declared.policed_card.PolicedCard.{PolicedCard}
use Rattle.cmd_setups.specs.StoredCommands.{ShowsTimed}

-- The state: the card, the commands that wait, the lines of those that were carried out, the nanoseconds of a tick, and
-- the cells that were not judged.
pub record PolicedWorld : Type 0 where
  pub card : Card
  pub waiting : List WaitingCommand
  pub answers : List ℕ
  pub tick : ℕ
  pub not_judged : NotJudged

-- The state at first, where these commands wait.
abbrev pub policed_start : ℕ → Card → List WaitingCommand → PolicedWorld
policed_start tick card waiting = record { card = card; waiting = waiting; answers = []; tick = tick; not_judged = all_judged }

-- The commands whose moment has come are carried out, and a cell arrives at the card, as in `police`, with this verdict.
pub record PolicesOneCell (before : PolicedWorld) (captured : CapturedCell) (verdict : Option Verdict) (after : PolicedWorld) : Type 0 where
  pub lines : List ℕ
  pub ready : Card
  pub carried : CarriesOutWaiting before.waiting captured.moment before.card lines ready after.waiting
  pub answered : after.answers ≡ before.answers ++ lines
  pub given : Answer
  pub taken : TakesCellWithRoom ready captured.cell captured.moment given after.card
  pub verdict_is : verdict ≡ verdict_given given
  pub counts : after.not_judged ≡ not_judged_after before.not_judged captured.number given
  pub same : after.tick ≡ before.tick

-- The report at the end: the lines of commands, and what `police` prints after its lines about cells.
abbrev pub policed_report : PolicedWorld → ReadingSummary → Option Fault → List ℕ
policed_report world summary ending =
    world.answers ++ (police_gap (is_filled world.answers) ++ (counts_heading ++ (counts_lines world.card.world ++ (not_judged_lines world.not_judged
    ++ (waiting_comment world.waiting ++ (run_comments world.tick summary ++ closing_lines summary ending))))))

-- The stored card agrees with the state. Only laws and contracts know the state.
pub record ShowsPoliced (policed : PolicedCard) (world : PolicedWorld) : Type 0 where
  pub timed : ShowsTimed policed.timed world.card world.waiting
  pub answers : policed.answers.items ≡ world.answers
  pub tick : policed.tick.nanoseconds ≡ world.tick
  pub not_judged : policed.not_judged ≡ world.not_judged

-- The stored card is that of a state to which a script without a fault leads, whose lines have these times, with a tick
-- of this many nanoseconds.
pub record IsOpenedBy (tick : ℕ) (script : List ℕ) (times : List (Option ℕ)) (policed : PolicedCard) : Type 0 where
  pub card : Card
  pub reached : IsSetUpAtTimes script times card
  pub led : IsLed card
  pub shown : ShowsPoliced policed (policed_start tick card (waiting_at tick times (lines_of script)))

-- What a script leads to.
abbrev pub OpensPolicedCard : ℕ → List ℕ → List (Option ℕ) → OpenedCard → Type 0
OpensPolicedCard tick script times (Faulty text) = IsFaultAtTimes script times text.items
OpensPolicedCard tick script times (Ready policed) = IsOpenedBy tick script times policed

-- What a script with times and files of rules leads to.
abbrev pub OpensSetup : ℕ → List ℕ → List (List ℕ) → OpenedCard → Type 0
OpensSetup tick setup texts (Faulty text) =
    HasFaultySetup IsFaultOfRules setup texts text.items
    ⊎ ((script : List ℕ) × IsPreparedAs setup texts script × IsFaultAtTimes script (line_times setup) text.items)
OpensSetup tick setup texts (Ready policed) = (script : List ℕ) × IsPreparedAs setup texts script × IsOpenedBy tick script (line_times setup) policed
