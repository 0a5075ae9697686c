-- What a choice between two diagrams is.
use Rattle.std.specs.Prelude.{◌≡◌, ℕ, ◌==◌, if◌then◌else◌, List}
use Rattle.rules_diagrams.specs.inner.Values.{diagram_value, IsWithin}
use Rattle.rules_diagrams.specs.declared.diagram.Diagram.{Diagram}
use Rattle.rules_diagrams.specs.declared.diagram.Node.{Node}

-- The choice between two numbers: the second if the first is 0.
abbrev pub chosen : ℕ → ℕ → ℕ → ℕ
chosen test one other = if test == 0 then other else one

-- The diagram gives each cell the choice between two diagrams by a third.
pub record IsChoice (nodes : List Node) (test one other answer : Diagram) : Type 0 where
  pub within : IsWithin nodes answer
  pub value : (cell : ℕ) → diagram_value nodes answer cell ≡ chosen (diagram_value nodes test cell) (diagram_value nodes one cell) (diagram_value nodes other cell)
