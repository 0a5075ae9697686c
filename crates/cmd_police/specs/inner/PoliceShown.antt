-- A run of `police` as the code stores it, and the states that it shows.
use Rattle.std.specs.Prelude.{◌≡◌, ◌||◌, ◌++◌, if◌then◌else◌, List, [], ℕ, Bool, true, Option}
use Rattle.card_core.specs.Agreement.{CoreAgrees}
use Rattle.cmd_setups.specs.StoredCommands.{ShowsTimed}
use Rattle.card_core.specs.World.{World}
use Rattle.card_core.specs.declared.answer.Answer.{Answer}
use Rattle.captures_text.specs.declared.line_choice.LineChoice.{LineChoice}
use Rattle.captures_text.specs.declared.captured_cell.CapturedCell.{CapturedCell}
use Rattle.gen_arena.specs.declared.id.Id.{Id}
use Rattle.text_card.specs.Replies.{number_of_judging}
use Rattle.upc_cell.specs.Header.{has_low_priority}
use Rattle.cmd_run.specs.ShownCard.{Held}
use Rattle.cmd_police.specs.RuleColumn.{ShownRules, line_end}
use Rattle.cmd_police.specs.StoredRules.{shown_stored}
use Rattle.leaky.specs.declared.excess.Excess.{Excess}
use Rattle.upc_cell.specs.declared.side.Side.{Side}
use Rattle.upc_cell.specs.declared.vc.Vc.{Vc}
use Rattle.cmd_police.specs.PoliceLines.{cell_columns, excess_of_answer, has_line, verdict_heading}
use Rattle.cmd_police.specs.PoliceText.{PoliceWorld}
use Rattle.cmd_police.specs.declared.police.PoliceRun.{PoliceRun}
use Rattle.cmd_setups.specs.inner.ExcessLeft.{LeavesConnection}
use Rattle.cmd_setups.specs.SpansShown.{ShowsSpans}

-- The run has what the state has.
pub record ShowsPolice (run : PoliceRun) (world : PoliceWorld) : Type 0 where
  pub lines : run.lines ≡ world.lines
  pub rules : shown_stored run.rules ≡ world.rules
  pub tick : run.tick.nanoseconds ≡ world.tick
  pub timed : ShowsTimed run.timed world.card world.waiting
  pub commanded : run.commanded ≡ world.commanded
  pub has_heading : run.has_heading ≡ world.has_heading
  pub spans : ShowsSpans run.spans world.spans
  pub not_judged : run.not_judged ≡ world.not_judged

-- The line of a cell with this answer and this excess, after the heading if that isn't written yet.
abbrev pub headed_line : Side → ShownRules → Bool → List Id → CapturedCell → Vc → Answer → Option Excess → List ℕ
headed_line side rules has_heading names captured vc given excess =
    (if has_heading then [] else verdict_heading rules)
    ++ (cell_columns side captured.number captured.moment vc (has_low_priority captured.cell) given excess ++ line_end rules (number_of_judging names given) captured.cell)

-- The text for a cell with this answer and this excess.
abbrev pub lined : Side → LineChoice → ShownRules → Bool → List Id → CapturedCell → Vc → Answer → Option Excess → List ℕ
lined side lines rules has_heading names captured vc given excess =
    if has_line lines given then headed_line side rules has_heading names captured vc given excess else []

-- The answers grew by such a text, whose excess is right if the card is as the cell left it, and this is whether the heading is written.
pub record AddsCell (side : Side) (lines : LineChoice) (rules : ShownRules) (has_heading : Bool) (captured : CapturedCell) (vc : Vc) (given : Answer) (card : Held)
    (old new : List ℕ) (now : Bool) : Type 0 where
  pub excess : Option Excess
  pub added : new ≡ old ++ lined side lines rules has_heading card.names captured vc given excess
  pub right : has_line lines given ≡ true → (before after : World) → CoreAgrees card.core after
      → LeavesConnection before.connections after.connections vc (has_low_priority captured.cell) given → excess ≡ excess_of_answer before vc (has_low_priority captured.cell) given
  pub written : now ≡ (has_heading || has_line lines given)
