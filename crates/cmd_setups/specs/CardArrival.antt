-- How a cell changes the stored card.
use Rattle.std.specs.Prelude.{◌≡◌, List, ℕ, Option, Some}
use Rattle.card_core.specs.Agreement.{CoreAgrees, CoreView}
use Rattle.card_core.specs.declared.answer.Answer.{Answer}
use Rattle.cmd_run.specs.RunText.{Card, IsLed}
use Rattle.cmd_setups.specs.CellsTaken.{TakesCellWithRoom}

-- For each card that a log leads to and that the core agrees with: the cell has this answer, and the core then agrees
-- with the card after it. There is no answer only if there is no such card.
abbrev pub ArrivesBy : (Card → Answer → Card → Type 0) → CoreView → Option Answer → CoreView → Type 0
ArrivesBy Takes old given new = (before : Card) → IsLed before → CoreAgrees old before.world
    → (answer : Answer) × (given ≡ Some answer) × (after : Card) × Takes before answer after × CoreAgrees new after.world

-- The cell arrives, and its connection's journal has room.
abbrev pub ArrivesWithRoom : CoreView → List ℕ → ℕ → Option Answer → CoreView → Type 0
ArrivesWithRoom old cell moment given new = ArrivesBy (λ before answer after. TakesCellWithRoom before cell moment answer after) old given new
