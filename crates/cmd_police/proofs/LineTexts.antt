-- The text of a cell that has a line.
use Rattle.std.proofs.Common.{◌≡◌, ◌||◌, Bool, true, false, if◌then◌else◌, List, [], ◌++◌, ℕ, refl, sym, ap, ◌∙◌, append_assoc}
use Rattle.card_core.specs.Agreement.{CoreAgrees}
use Rattle.card_core.specs.World.{World}
use Rattle.card_core.specs.declared.answer.Answer.{Answer}
use Rattle.captures_text.specs.declared.line_choice.LineChoice.{LineChoice}
use Rattle.captures_text.specs.declared.captured_cell.CapturedCell.{CapturedCell}
use Rattle.leaky.specs.declared.excess.Excess.{Excess}
use Rattle.std.specs.Prelude.{Option}
use Rattle.text_card.specs.Replies.{number_of_judging}
use Rattle.upc_cell.specs.Header.{has_low_priority}
use Rattle.upc_cell.specs.declared.side.Side.{Side}
use Rattle.upc_cell.specs.declared.vc.Vc.{Vc}
use Rattle.cmd_police.specs.PoliceLines.{cell_columns, excess_of_answer, has_line, verdict_heading}
use Rattle.cmd_police.specs.RuleColumn.{ShownRules, line_end}
use Rattle.cmd_run.specs.ShownCard.{Held}
use Rattle.cmd_setups.specs.inner.ExcessLeft.{LeavesConnection}
use Rattle.cmd_police.specs.inner.PoliceShown.{AddsCell, headed_line}

or_true : (b : Bool) → true ≡ (b || true)
or_true true = refl
or_true false = refl

-- The heading, the columns and the end of a line are the line with its heading.
joined : (old first second third heading columns ending : List ℕ) → first ≡ old ++ heading → second ≡ first ++ columns → third ≡ second ++ ending
    → third ≡ old ++ (heading ++ (columns ++ ending))
joined old first second third heading columns ending one two three =
    three ∙ ap (λ xs. xs ++ ending) (two ∙ ap (λ xs. xs ++ columns) one)
    ∙ append_assoc (old ++ heading) columns ending ∙ append_assoc old heading (columns ++ ending)

pub adds_line : (side : Side) (lines : LineChoice) (rules : ShownRules) (has_heading : Bool) (captured : CapturedCell) (vc : Vc) (given : Answer) (card : Held) (excess : Option Excess)
    (old first second new : List ℕ) → has_line lines given ≡ true
    → first ≡ old ++ (if has_heading then [] else verdict_heading rules)
    → second ≡ first ++ cell_columns side captured.number captured.moment vc (has_low_priority captured.cell) given excess
    → new ≡ second ++ line_end rules (number_of_judging card.names given) captured.cell
    → ((before after : World) → CoreAgrees card.core after → LeavesConnection before.connections after.connections vc (has_low_priority captured.cell) given
    → excess ≡ excess_of_answer before vc (has_low_priority captured.cell) given)
    → AddsCell side lines rules has_heading captured vc given card old new true
adds_line side lines rules has_heading captured vc given card excess old first second new wanted heading columns ending right = record {
  excess = excess;
  added = joined old first second new (if has_heading then [] else verdict_heading rules) (cell_columns side captured.number captured.moment vc (has_low_priority captured.cell) given excess)
      (line_end rules (number_of_judging card.names given) captured.cell) heading columns ending
      ∙ ap (λ b. old ++ (if b then headed_line side rules has_heading card.names captured vc given excess else [])) (sym wanted);
  right = λ _ before after agrees leaves. right before after agrees leaves;
  written = or_true has_heading ∙ ap (λ b. has_heading || b) (sym wanted);
}
