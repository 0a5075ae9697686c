-- What diagrams tell of cells.
use Rattle.std.specs.Prelude.{◌≡◌, ℕ, Bool, List}
use Rattle.rules_cells.specs.Fields.{IsCell}
use Rattle.rules_diagrams.specs.CellNumbers.{octets_number}
use Rattle.rules_diagrams.specs.inner.Spans.{truth}
use Rattle.rules_diagrams.specs.inner.Values.{diagram_value, IsWithin}
use Rattle.rules_diagrams.specs.declared.diagram.Diagram.{Diagram}
use Rattle.rules_diagrams.specs.declared.diagram.Node.{Node}

-- The diagram gives each cell this number.
pub record GivesNumber (nodes : List Node) (number : List ℕ → ℕ) (diagram : Diagram) : Type 0 where
  pub within : IsWithin nodes diagram
  pub value : (cell : List ℕ) → IsCell cell → diagram_value nodes diagram (octets_number cell) ≡ number cell

-- The diagram gives 1 to the cells of which the test holds, 0 to all others.
abbrev pub Tells : List Node → (List ℕ → Bool) → Diagram → Type 0
Tells nodes met diagram = GivesNumber nodes (λ cell. truth (met cell)) diagram
