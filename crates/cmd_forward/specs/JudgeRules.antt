-- Rules that say which cells go on, as steps from world to world: a world is the state that they are about. They may allow several answers
-- to a cell. A program doesn't have to store its world: it shows worlds, by a relation that only laws and contracts use.
use Rattle.std.specs.Prelude.{◌≡◌, ℕ, List, ◌++◌, Option}
use Rattle.captures.specs.declared.fault.Fault.{Fault}
use Rattle.captures_text.specs.declared.captured_cell.CapturedCell.{CapturedCell}
use Rattle.captures_text.specs.declared.reading_summary.ReadingSummary.{ReadingSummary}
use Rattle.cmd_forward.specs.declared.onward.Onward.{Onward}

-- The rules of such a program.
pub record JudgeRules (World : Type 0) : Type 1 where
  -- From this world, a cell may go on so, and lead to the next world.
  pub steps : World → CapturedCell → Onward → World → Type 0
  -- The report at the end of a capture in this world, or at the fault at which its reading ends, after these records were passed over.
  pub closes : World → ReadingSummary → Option Fault → List ℕ
  -- Invariant of the worlds that a run reaches.
  pub is_sound : World → Type 0

-- In a sound world each cell has some answer, and leads only to sound worlds.
pub record JudgesEachCell {World : Type 0} (rules : JudgeRules World) : Type 0 where
  pub keeps : (before : World) (captured : CapturedCell) (onward : Onward) (after : World)
      → rules.is_sound before → rules.steps before captured onward after → rules.is_sound after
  pub step : (before : World) (captured : CapturedCell) → rules.is_sound before
      → (onward : Onward) × (after : World) × rules.steps before captured onward after

-- This holds for each sound world that is shown.
abbrev pub OfEachJudgeWorld : {World : Type 0} → JudgeRules World → (World → Type 0) → (World → Type 0) → Type 0
OfEachJudgeWorld {World = World} rules shown IsSo = (world : World) → rules.is_sound world → shown world → IsSo world

-- From each world that was shown, the cell may go on so, and lead to a world that is shown afterwards.
abbrev pub JudgesCell : {World : Type 0} → JudgeRules World → (World → Type 0) → CapturedCell → Onward → (World → Type 0) → Type 0
JudgesCell {World = World} rules shown captured onward shown' =
    OfEachJudgeWorld rules shown (λ world. (after : World) × shown' after × rules.steps world captured onward after)

-- The report grew by the one at the end of the capture, or at its fault, in each world that is shown.
abbrev pub ClosesReport : {World : Type 0} → JudgeRules World → (World → Type 0) → ReadingSummary → Option Fault → List ℕ → List ℕ → Type 0
ClosesReport rules shown summary ending old new = OfEachJudgeWorld rules shown (λ world. new ≡ old ++ rules.closes world summary ending)
