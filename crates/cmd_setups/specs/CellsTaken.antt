-- A cell arrives at the card of a script. A long journal of its connection may be dropped before.
use Rattle.std.specs.Prelude.{◌≡◌, ◌≤◌, ◌⊎◌, ℕ, ◌^◌, List, length, Some}
use Rattle.card_core.specs.World.{Connection, World, connection_in}
use Rattle.card_core.specs.declared.answer.Answer.{Answer}
use Rattle.card_core.specs.declared.answer.Answer.TheVariants.{JournalFull}
use Rattle.card_core.specs.declared.step.Step.TheVariants.{Cut}
use Rattle.upc_cell.specs.Connection.{vc_of}
use Rattle.upc_cell.specs.declared.vc.Vc.{Vc}
use Rattle.cmd_run.specs.RunText.{Arrives, Card, TakesCommand}
use Rattle.text_script.specs.ScriptCommands.{cut}

-- The connection that the cell's header names, read at the card's side.
abbrev pub connection_of_cell : Card → List ℕ → Vc
connection_of_cell card cell = vc_of card.world.shape.side cell

-- The cell arrives at the card, with this answer.
pub record TakesCell (before : Card) (cell : List ℕ) (moment : ℕ) (given : Answer) (after : Card) : Type 0 where
  pub arrived : Arrives before.world cell moment given after.world
  pub same : after.names ≡ before.names

-- The connection is cut, or not.
abbrev pub MayBeCut : Card → Vc → Card → Type 0
MayBeCut before vc after = (after ≡ before) ⊎ ((line : List ℕ) × TakesCommand before (cut vc) (Cut vc) line after)

-- 2^62 cells were judged on the line of the connection.
abbrev pub IsWornLine : World → Vc → Type 0
IsWornLine world vc =
    (connection : Connection) × (connection_in world.connections vc ≡ Some connection) × (2 ^ 62 ≤ length (world.verdicts connection.line))

-- The journal of the connection has just been cut, or no cell is judged on its line any more.
abbrev pub IsCutOrWorn : Card → Vc → Card → Type 0
IsCutOrWorn before vc after = ((line : List ℕ) × TakesCommand before (cut vc) (Cut vc) line after) ⊎ IsWornLine before.world vc

-- The cell arrives. Its connection may be cut before, so that its journal has room: the answer of a full journal comes only after a cut, or
-- if 2^62 cells were judged on the line.
pub record TakesCellWithRoom (before : Card) (cell : List ℕ) (moment : ℕ) (given : Answer) (after : Card) : Type 0 where
  pub ready : Card
  pub cuts : MayBeCut before (connection_of_cell before cell) ready
  pub taken : TakesCell ready cell moment given after
  pub room : given ≡ JournalFull → IsCutOrWorn before (connection_of_cell before cell) ready
