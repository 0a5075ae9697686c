-- The answers to several cells in order.
use Rattle.std.specs.Prelude.{◌≡◌, ℕ, List, ◌++◌}
use Rattle.captures_text.specs.CaptureText.{IsTextOfCells}
use Rattle.captures_text.specs.CellFilter.{CellsEnd}
use Rattle.captures_text.specs.CellFollowing.{OfEachWorld}
use Rattle.captures_text.specs.CellRules.{CellRules}
use Rattle.captures_text.specs.declared.captured_cell.CapturedCell.{CapturedCell}
use Rattle.text_io.specs.declared.ending.Done.{Done}
use Rattle.text_io.specs.declared.ending.Done.TheVariants.{Ended}
use Rattle.text_io.specs.declared.machine.Turn.{Turn}
use Rattle.text_io.specs.declared.machine.Turn.TheVariants.{GoesOn, Ends}

-- From this world, the text answers these cells in order, and leads to the last world: any text for what follows, from
-- there on, completes it.
abbrev pub StepsThrough : {World : Type 0} → CellRules World → World → List CapturedCell → List ℕ → World → Type 0
StepsThrough rules world cells here last = (later : List CapturedCell) (end : CellsEnd) (more : List ℕ) (done : Done)
    → IsTextOfCells rules last later end more done → IsTextOfCells rules world (cells ++ later) end (here ++ more) done

-- From this world, the text answers these cells, of which one ends the run, whatever follows.
abbrev pub StepsToEnd : {World : Type 0} → CellRules World → World → List CapturedCell → List ℕ → Type 0
StepsToEnd rules world cells here = (later : List CapturedCell) (end : CellsEnd) → IsTextOfCells rules world (cells ++ later) end here Ended

-- From this world, the text answers these cells. It leads to a sound world that is shown, or a cell ends the run.
abbrev pub AnswersFrom : {World : Type 0} → CellRules World → World → List CapturedCell → Turn → (World → Type 0) → List ℕ → Type 0
AnswersFrom {World = World} rules world cells GoesOn shown here = (last : World) × shown last × rules.is_sound last × StepsThrough rules world cells here last
AnswersFrom rules world cells Ends shown here = StepsToEnd rules world cells here

-- The answers grew by a text that answers these cells from each world that was shown.
abbrev pub AnswersCells : {World : Type 0} → CellRules World → (World → Type 0) → List CapturedCell → Turn → (World → Type 0) → List ℕ → List ℕ → Type 0
AnswersCells rules shown cells turn shown' old new =
    (here : List ℕ) × (new ≡ old ++ here) × OfEachWorld rules shown (λ world. AnswersFrom rules world cells turn shown' here)
