-- The stored answers to the cells of the ports.
use Rattle.std.specs.Prelude.{◌≡◌, ℕ, List, All, Option, Some, None}
use Rattle.std.specs.List.{AllZip}
use Rattle.card_core.specs.declared.answer.Answer.{Answer}
use Rattle.text_io.specs.Words.{words_of}
use Rattle.upc_cell.specs.declared.side.Side.{Side}
use Rattle.text_script.specs.ScriptCommands.{command_of}
use Rattle.cmd_ports.specs.LineAnswers.{MayAnswer}
use Rattle.text_script.specs.declared.cell_line.CellLine.TheVariants.{Comes}
use Rattle.cmd_ports.specs.declared.answered.AnsweredCell.{AnsweredCell}
use Rattle.text_script.specs.CellLine.{IsCellLine}
use Rattle.cmd_ports.specs.inner.Answered.{answered_cell}

-- The line has this cell, at this moment.
abbrev pub BringsCell : Side → List ℕ → ℕ → List ℕ → Type 0
BringsCell side line moment cell = IsCellLine (command_of side (words_of line)) (Comes moment cell)

-- The line has a cell.
abbrev pub HasCell : Side → List ℕ → Type 0
HasCell side line = (moment : ℕ) × (cell : List ℕ) × BringsCell side line moment cell

-- The stored answer is one that the line's cell may have.
pub record IsStoredOf (side : Side) (line : List ℕ) (stored : AnsweredCell) : Type 0 where
  pub moment : ℕ
  pub cell : List ℕ
  pub brings : BringsCell side line moment cell
  pub answer : Answer
  pub possible : MayAnswer cell moment answer
  pub kept : stored ≡ answered_cell cell answer

-- What is stored of a line: nothing only if it has no cell.
abbrev pub IsStoredFrom : Side → List ℕ → Option AnsweredCell → Type 0
IsStoredFrom side line None = HasCell side line → ⊥
IsStoredFrom side line (Some stored) = IsStoredOf side line stored

-- The lines of a port, and one stored answer for each, in order. Each line that was assigned to a port has a cell.
abbrev pub AnswersPort : Side → List (List ℕ) → List AnsweredCell → Type 0
AnswersPort side lines arrivals = All (HasCell side) lines → AllZip (IsStoredOf side) lines arrivals
