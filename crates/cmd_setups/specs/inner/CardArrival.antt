-- How a cell and a cut change the stored card, one at a time.
use Rattle.std.specs.Prelude.{List, ℕ, Option}
use Rattle.card_core.specs.Agreement.{CoreAgrees, CoreView}
use Rattle.card_core.specs.declared.answer.Answer.{Answer}
use Rattle.card_core.specs.declared.step.Step.TheVariants.{Cut}
use Rattle.upc_cell.specs.declared.vc.Vc.{Vc}
use Rattle.cmd_run.specs.RunText.{Card, IsLed, TakesCommand}
use Rattle.text_script.specs.ScriptCommands.{cut}
use Rattle.cmd_setups.specs.CellsTaken.{TakesCell}
use Rattle.cmd_setups.specs.CardArrival.{ArrivesBy}

-- The cell arrives once.
abbrev pub ArrivesOnce : CoreView → List ℕ → ℕ → Option Answer → CoreView → Type 0
ArrivesOnce old cell moment given new = ArrivesBy (λ before answer after. TakesCell before cell moment answer after) old given new

-- For each such card: it takes a cut of this connection, and the core then agrees with the card after it.
abbrev pub CutsOff : CoreView → Vc → CoreView → Type 0
CutsOff old vc new = (before : Card) → IsLed before → CoreAgrees old before.world
    → (line : List ℕ) × (after : Card) × TakesCommand before (cut vc) (Cut vc) line after × CoreAgrees new after.world
