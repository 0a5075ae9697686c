-- The text of `police`. A script sets up a card, as `upc run` does; its faults are explained, and then nothing is
-- policed. Otherwise the card judges the cells of a capture, at port 0 and in order.
use Rattle.std.specs.Prelude.{◌≡◌, ◌⊎◌, ℕ, ◌||◌, Bool, false, if◌then◌else◌, List, [], ◌++◌, codes, Option, Some, option_map}
use Rattle.text_io.specs.Words.{is_filled}
use Rattle.captures.specs.declared.fault.Fault.{Fault}
use Rattle.card_core.specs.declared.answer.Answer.{Answer}
use Rattle.captures_text.specs.CaptureText.{IsCaptureText}
use Rattle.captures_text.specs.CellFilter.{filter_start}
use Rattle.captures_text.specs.CellRules.{CellRules}
use Rattle.captures_text.specs.RunLines.{closing_lines}
use Rattle.captures_text.specs.declared.line_choice.LineChoice.{LineChoice}
use Rattle.captures_text.specs.declared.captured_cell.CapturedCell.{CapturedCell}
use Rattle.captures_text.specs.declared.reading_summary.ReadingSummary.{ReadingSummary}
use Rattle.text_io.specs.Lines.{lines_of}
use Rattle.text_io.specs.declared.ending.Done.{Done}
use Rattle.text_io.specs.declared.ending.Done.TheVariants.{Ended}
use Rattle.upc_cell.specs.Header.{has_low_priority}
use Rattle.cmd_run.specs.RunText.{Card, IsLed}
use Rattle.text_card.specs.Replies.{number_of_judging}
use Rattle.cmd_setups.specs.CommandsUnderTraffic.{CarriesOutWaiting, waiting_comment}
use Rattle.cmd_setups.specs.ConnectionCounts.{counts_heading, counts_lines}
use Rattle.cmd_setups.specs.NotJudgedCells.{all_judged, not_judged_after, not_judged_lines}
use Rattle.cmd_setups.specs.RunComments.{run_comments}
use Rattle.cmd_police.specs.PoliceLines.{cell_columns, excess_of_answer, has_line, verdict_heading}
use Rattle.cmd_police.specs.RuleColumn.{ShownRules, line_end}
use Rattle.cmd_setups.specs.SpanCounts.{SpansWorld, ended_text, is_begun_after, present_text, spans_after, spans_at, spans_start, ticks_of_span}
use Rattle.cmd_setups.specs.TimedLines.{WaitingCommand, waiting_at}
use Rattle.cmd_setups.specs.declared.not_judged.NotJudged.{NotJudged}
use Rattle.cmd_police.specs.declared.scope.PoliceScope.{PoliceScope}
use Rattle.cmd_setups.specs.CellsTaken.{connection_of_cell, TakesCellWithRoom}
use Rattle.cmd_setups.specs.SetUpScripts.{IsSetUpAtTimes, IsFaultAtTimes}

-- The state of a run: which cells have lines, the rules that these show, the nanoseconds of a tick, the card, the commands that wait,
-- whether some were carried out, whether the heading of the lines was written, the spans of time, and the cells that were not judged.
pub record PoliceWorld : Type 0 where
  pub lines : LineChoice
  pub rules : ShownRules
  pub tick : ℕ
  pub card : Card
  pub waiting : List WaitingCommand
  pub commanded : Bool
  pub has_heading : Bool
  pub spans : SpansWorld
  pub not_judged : NotJudged

-- The state at first, where a tick has this many nanoseconds, lines show these rules, and these commands wait.
abbrev pub police_start : PoliceScope → ℕ → ShownRules → Card → List WaitingCommand → PoliceWorld
police_start scope tick rules card waiting = record {
  lines = scope.lines;
  rules = rules;
  tick = tick;
  card = card;
  waiting = waiting;
  commanded = false;
  has_heading = false;
  spans = spans_start card.world.shape.side (option_map (λ nanoseconds. ticks_of_span nanoseconds tick) scope.every);
  not_judged = all_judged;
}

-- The text for a cell with this answer: its line, and before the first line the heading.
abbrev pub policed_text : PoliceWorld → CapturedCell → Answer → List ℕ
policed_text before captured given =
    if has_line before.lines given
    then (if before.has_heading then [] else verdict_heading before.rules)
    ++ (cell_columns before.card.world.shape.side captured.number captured.moment (connection_of_cell before.card captured.cell) (has_low_priority captured.cell) given
    (excess_of_answer before.card.world (connection_of_cell before.card captured.cell) (has_low_priority captured.cell) given)
    ++ line_end before.rules (number_of_judging before.card.names given) captured.cell)
    else []

-- The state after a cell with this answer.
abbrev pub after_cell : PoliceWorld → CapturedCell → Answer → Card → PoliceWorld
after_cell before captured given card = record before {
  card = card;
  has_heading = before.has_heading || has_line before.lines given;
  spans = spans_after (spans_at before.spans captured.moment) (connection_of_cell before.card captured.cell) given;
  not_judged = not_judged_after before.not_judged captured.number given;
}

-- The commands whose moment has come are carried out, with this text.
pub record CarriesOutDue (before : PoliceWorld) (moment : ℕ) (text : List ℕ) (after : PoliceWorld) : Type 0 where
  pub card : Card
  pub left : List WaitingCommand
  pub carried : CarriesOutWaiting before.waiting moment before.card text card left
  pub is : after ≡ record before { card = card; waiting = left; commanded = before.commanded || is_filled text }

-- A cell arrives in this state: this text answers it, and leads to the next state. If the cell ends a span, the text
-- begins with the lines of that span.
pub record PolicesArrived (before : PoliceWorld) (captured : CapturedCell) (text : List ℕ) (next : Option PoliceWorld) : Type 0 where
  pub given : Answer
  pub card : Card
  pub taken : TakesCellWithRoom before.card captured.cell captured.moment given card
  pub written : text ≡ ended_text before.spans captured.moment ++ policed_text before captured given
  pub after : next ≡ Some (after_cell before captured given card)

-- A cell is policed, after the commands whose moment has come with it.
pub record PolicesCaptured (before : PoliceWorld) (captured : CapturedCell) (text : List ℕ) (next : Option PoliceWorld) : Type 0 where
  pub first : List ℕ
  pub ready : PoliceWorld
  pub commands : CarriesOutDue before captured.moment first ready
  pub rest : List ℕ
  pub policed : PolicesArrived ready captured rest next
  pub whole : text ≡ first ++ rest

-- Whether lines are written before the table: those of cells, of spans or of commands.
abbrev pub has_lines_before : PoliceWorld → Bool
has_lines_before world = (world.has_heading || is_begun_after world.spans) || world.commanded

-- An empty line, if there are lines before it.
abbrev pub police_gap : Bool → List ℕ
police_gap has_lines = if has_lines then codes "\n" else []

-- The text at the end: the lines of the last span; an empty line after the lines about cells, spans and commands, if
-- there are any; the table of the connections; the comments; and the fault at which the reading ended.
abbrev pub police_closes : PoliceWorld → ReadingSummary → Option Fault → List ℕ
police_closes world summary ending =
    present_text world.spans ++ (police_gap (has_lines_before world) ++ (counts_heading ++ (counts_lines world.card.world
    ++ (not_judged_lines world.not_judged ++ (waiting_comment world.waiting ++ (run_comments world.tick summary ++ closing_lines summary ending))))))

-- The rules of `police`.
abbrev pub police_rules : CellRules PoliceWorld
police_rules = record { steps = PolicesCaptured; closes = police_closes; is_sound = λ world. IsLed world.card }

-- The text for a whole capture that is policed by a setup script without a fault, whose lines have these times, and how the run ends.
-- Lines about cells show these rules.
abbrev pub IsPoliced : PoliceScope → ℕ → ShownRules → List ℕ → List (Option ℕ) → List ℕ → List ℕ → Done → Type 0
IsPoliced scope tick rules script times octets text done =
    (card : Card) × IsSetUpAtTimes script times card
    × IsCaptureText police_rules (filter_start tick scope.link scope.timing) (police_start scope tick rules card (waiting_at tick times (lines_of script))) octets text done

-- The text for a setup script whose lines have these times, and a whole capture, and how the run ends.
abbrev pub IsPoliceText : PoliceScope → ℕ → ShownRules → List ℕ → List (Option ℕ) → List ℕ → List ℕ → Done → Type 0
IsPoliceText scope tick rules script times octets text done =
    (IsFaultAtTimes script times text × (done ≡ Ended)) ⊎ IsPoliced scope tick rules script times octets text done
