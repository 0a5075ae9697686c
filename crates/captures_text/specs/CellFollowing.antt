-- The answers of a program to the cells of a capture that count, and to their end. It doesn't have to store the world
-- that its rules are about. Instead it shows worlds, by a relation that only laws and contracts use.
use Rattle.std.specs.Prelude.{◌≡◌, ℕ, List, ◌++◌, Option, Some, None}
use Rattle.captures.specs.declared.fault.Fault.{Fault}
use Rattle.captures_text.specs.CellRules.{CellRules}
use Rattle.captures_text.specs.declared.captured_cell.CapturedCell.{CapturedCell}
use Rattle.captures_text.specs.declared.reading_summary.ReadingSummary.{ReadingSummary}
use Rattle.text_io.specs.declared.machine.Turn.{Turn}
use Rattle.text_io.specs.declared.machine.Turn.TheVariants.{GoesOn, Ends}

-- This holds for each sound world that is shown.
abbrev pub OfEachWorld : {World : Type 0} → CellRules World → (World → Type 0) → (World → Type 0) → Type 0
OfEachWorld {World = World} rules shown IsSo = (world : World) → rules.is_sound world → shown world → IsSo world

-- From this world, this text answers the cell. It ends the run, or leads to a world that is shown afterwards.
abbrev pub TurnsAtCell : {World : Type 0} → CellRules World → World → CapturedCell → List ℕ → Turn → (World → Type 0) → Type 0
TurnsAtCell rules world captured here Ends shown = rules.steps world captured here None
TurnsAtCell {World = World} rules world captured here GoesOn shown = (after : World) × shown after × rules.steps world captured here (Some after)

-- The answers grew by a text that answers the cell, from each world that was shown.
abbrev pub FollowsCell : {World : Type 0} → CellRules World → (World → Type 0) → CapturedCell → Turn → (World → Type 0) → List ℕ → List ℕ → Type 0
FollowsCell rules shown captured turn shown' old new =
    (here : List ℕ) × (new ≡ old ++ here) × OfEachWorld rules shown (λ world. TurnsAtCell rules world captured here turn shown')

-- The answers grew by the text that answers the end of the capture, or its fault, in each world that is shown.
abbrev pub ClosesCells : {World : Type 0} → CellRules World → (World → Type 0) → ReadingSummary → Option Fault → List ℕ → List ℕ → Type 0
ClosesCells rules shown summary ending old new = OfEachWorld rules shown (λ world. new ≡ old ++ rules.closes world summary ending)
