-- Rules of programs that answer the cells of a capture that count, as steps from world to world: a world is the state that they are about.
-- They may allow several answers to a cell.
use Rattle.std.specs.Prelude.{◌≡◌, ℕ, List, Option, Some}
use Rattle.captures.specs.declared.fault.Fault.{Fault}
use Rattle.captures_text.specs.declared.captured_cell.CapturedCell.{CapturedCell}
use Rattle.captures_text.specs.declared.reading_summary.ReadingSummary.{ReadingSummary}

-- The rules of such a program.
pub record CellRules (World : Type 0) : Type 1 where
  -- From this world, the text may answer a cell and lead to the next world, or to none if the cell ends the run.
  pub steps : World → CapturedCell → List ℕ → Option World → Type 0
  -- The text that answers the end of a capture in this world, or the fault at which its reading ends, after these records were passed over.
  pub closes : World → ReadingSummary → Option Fault → List ℕ
  -- Invariant of the worlds that a run reaches.
  pub is_sound : World → Type 0

-- In a sound world each cell has some answer, and leads only to sound worlds.
pub record AnswersEachCell {World : Type 0} (rules : CellRules World) : Type 0 where
  pub keeps : (before : World) (captured : CapturedCell) (here : List ℕ) (after : World)
      → rules.is_sound before → rules.steps before captured here (Some after) → rules.is_sound after
  pub step : (before : World) (captured : CapturedCell) → rules.is_sound before
      → (here : List ℕ) × (next : Option World) × rules.steps before captured here next

-- Rules by which each cell has one answer in each world.
abbrev pub fixed_rules : {World : Type 0} → (World → CapturedCell → List ℕ × Option World) → (World → ReadingSummary → Option Fault → List ℕ) → CellRules World
fixed_rules steps closes = record {
  steps = λ world captured here next. steps world captured ≡ (here, next);
  closes = closes;
  is_sound = λ world. Unit {0};
}
