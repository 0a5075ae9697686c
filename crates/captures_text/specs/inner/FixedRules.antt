-- Rules by which each cell has one answer in each world. The law is in `specs/` because implementations of `CellFollower` cite it.
use Rattle.std.proofs.Common.{refl}
use Rattle.std.specs.Prelude.{ℕ, List, [], ◌∷◌, ◌++◌, Option, Some, None}
use Rattle.captures.specs.declared.fault.Fault.{Fault}
use Rattle.captures_text.specs.CaptureText.{end_done, text_at_end}
use Rattle.captures_text.specs.CellFilter.{CellsEnd}
use Rattle.captures_text.specs.CellRules.{AnswersEachCell, fixed_rules}
use Rattle.captures_text.specs.declared.captured_cell.CapturedCell.{CapturedCell}
use Rattle.captures_text.specs.declared.reading_summary.ReadingSummary.{ReadingSummary}
use Rattle.text_io.specs.declared.ending.Done.{Done}
use Rattle.text_io.specs.declared.ending.Done.TheVariants.{Ended}
use Rattle.text_io.specs.declared.machine.Turn.{Turn}
use Rattle.text_io.specs.declared.machine.Turn.TheVariants.{GoesOn, Ends}

-- Each cell has an answer.
pub fixed_total : {World : Type 0} (steps : World → CapturedCell → List ℕ × Option World) (closes : World → ReadingSummary → Option Fault → List ℕ)
    → AnswersEachCell (fixed_rules steps closes)
fixed_total steps closes = record {
  keeps = λ before captured here after sound step. tt;
  step = λ before captured sound. ((steps before captured).0, (steps before captured).1, refl);
}

-- The next world after a cell, if the run goes on.
abbrev pub world_after : {World : Type 0} → Turn → World → Option World
world_after GoesOn after = Some after
world_after Ends after = None

-- The text after this one, if there is a next world.
abbrev pub text_then : {World : Type 0} → List ℕ → Option World → (World → List ℕ × Done) → List ℕ × Done
text_then here None goes = (here, Ended)
text_then here (Some next) goes = (here ++ (goes next).0, (goes next).1)

-- The text that answers these cells in order by these steps, and then their end, and how the run ends.
abbrev pub fixed_text : {World : Type 0} → (World → CapturedCell → List ℕ × Option World) → (World → ReadingSummary → Option Fault → List ℕ) → World
    → List CapturedCell → CellsEnd → List ℕ × Done
fixed_text steps closes world [] end = (text_at_end (fixed_rules steps closes) world end, end_done end)
fixed_text steps closes world (captured ∷ cells) end =
    text_then (steps world captured).0 (steps world captured).1 (λ next. fixed_text steps closes next cells end)
