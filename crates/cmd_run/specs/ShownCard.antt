-- A card as the code stores it (`Held`), and the cards of the definitions (`Card`) that it represents.
use Rattle.std.specs.Prelude.{◌≡◌, ℕ, List, ◌++◌, Option, Some, None}
use Rattle.gen_arena.specs.declared.id.Id.{Id}
use Rattle.card_core.specs.Agreement.{CoreAgrees, CoreView}
use Rattle.cmd_run.specs.RunText.{Card, IsLed, RunSteps, RunWorld}

-- The core, and the ids of the programs in the order of their names.
pub record Held : Type 0 where
  pub core : CoreView
  pub names : List Id

-- The stored card represents this card: the core agrees with its world, and the names are the same.
pub record ShowsCard (held : Held) (card : Card) : Type 0 where
  pub agrees : CoreAgrees held.core card.world
  pub names : held.names ≡ card.names

-- A stored card represents a card; without a stored card there is no card yet.
abbrev pub ShowsRun : Option Held → RunWorld → Type 0
ShowsRun None None = Unit {0}
ShowsRun (Some held) (Some card) = ShowsCard held card
ShowsRun _ _ = ⊥

-- From each card that was represented before, this text leads to a card that is represented afterwards.
abbrev pub MovesBy : (Card → List ℕ → Card → Type 0) → Held → List ℕ → Held → Type 0
MovesBy Goes held text held' = (before : Card) → IsLed before → ShowsCard held before
    → (after : Card) × ShowsCard held' after × Goes before text after

-- The answers grew by a text that moves the stored card in this way.
abbrev pub Moves : (Card → List ℕ → Card → Type 0) → Held → Held → List ℕ → List ℕ → Type 0
Moves Goes held held' old new = (text : List ℕ) × (new ≡ old ++ text) × MovesBy Goes held text held'

-- The line has this answer, and the run continues with the card after it.
abbrev pub AnswersLine : List ℕ → Card → List ℕ → Card → Type 0
AnswersLine line before text after = RunSteps (Some before) line text (Some (Some after))
