-- A choice that is asked for, and its answer.
use Rattle.std.specs.Prelude.{◌≡◌, ◌≤◌, ℕ, min, List}
use Rattle.rules_diagrams.specs.inner.Choices.{chosen}
use Rattle.rules_diagrams.specs.inner.Values.{diagram_value, top_of, IsWithin}
use Rattle.rules_diagrams.specs.declared.diagram.Diagram.{Diagram}
use Rattle.rules_diagrams.specs.declared.diagram.Node.{Node}
use Rattle.rules_diagrams.specs.declared.step.Asked.{Asked}

-- The number that a choice gives a cell.
abbrev pub chosen_value : List Node → Asked → ℕ → ℕ
chosen_value nodes asked cell = chosen (diagram_value nodes asked.test cell) (diagram_value nodes asked.one cell) (diagram_value nodes asked.other cell)

-- The first bit that one of the three diagrams asks for.
abbrev pub asked_top : List Node → Asked → ℕ
asked_top nodes asked = min (top_of nodes asked.test) (min (top_of nodes asked.one) (top_of nodes asked.other))

-- The three diagrams are of these nodes.
pub record AreWithin (nodes : List Node) (asked : Asked) : Type 0 where
  pub test : IsWithin nodes asked.test
  pub one : IsWithin nodes asked.one
  pub other : IsWithin nodes asked.other

-- The diagram is the choice.
pub record IsAnswer (nodes : List Node) (asked : Asked) (answer : Diagram) : Type 0 where
  pub parts : AreWithin nodes asked
  pub within : IsWithin nodes answer
  pub top : asked_top nodes asked ≤ top_of nodes answer
  pub value : (cell : ℕ) → diagram_value nodes answer cell ≡ chosen_value nodes asked cell
