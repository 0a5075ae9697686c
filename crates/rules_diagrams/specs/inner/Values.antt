-- The number that a diagram gives a cell. Nodes are listed with the newest first, so the number of a node is how many nodes are
-- older. A cell is the number that its octets spell.
use Rattle.std.specs.Prelude.{◌≡◌, ◌<◌, ℕ, ◌==◌, if◌then◌else◌, List, [], ◌∷◌, length}
use Rattle.rules_diagrams.specs.inner.CellBits.{is_set}
use Rattle.rules_diagrams.specs.declared.diagram.Diagram.{Diagram}
use Rattle.rules_diagrams.specs.declared.diagram.Diagram.TheVariants.{Leaf, Inner}
use Rattle.rules_diagrams.specs.declared.diagram.Node.{Node}

-- The number of a diagram, where this is the number that each node gives.
abbrev pub value_by : (ℕ → ℕ) → Diagram → ℕ
value_by numbers (Leaf value) = value
value_by numbers (Inner number) = numbers number

-- The diagram that a node leads to.
abbrev pub taken_side : Node → ℕ → Diagram
taken_side node cell = if is_set cell node.bit then node.high else node.low

-- The number that the node of this number gives a cell.
abbrev pub node_value : List Node → ℕ → ℕ → ℕ
node_value [] cell number = 0
node_value (node ∷ older) cell number =
    if number == length older then value_by (node_value older cell) (taken_side node cell) else node_value older cell number

-- The number that a diagram gives a cell.
abbrev pub diagram_value : List Node → Diagram → ℕ → ℕ
diagram_value nodes diagram cell = value_by (node_value nodes cell) diagram

-- The bit of the node of this number.
abbrev pub node_top : List Node → ℕ → ℕ
node_top [] number = 416
node_top (node ∷ older) number = if number == length older then node.bit else node_top older number

-- The first bit that a diagram asks for, 416 if it asks for none.
abbrev pub top_of : List Node → Diagram → ℕ
top_of nodes (Leaf value) = 416
top_of nodes (Inner number) = node_top nodes number

-- The diagram begins at one of these nodes, if it begins at a node.
abbrev pub IsWithin : List Node → Diagram → Type 0
IsWithin nodes (Leaf value) = Unit {0}
IsWithin nodes (Inner number) = number < length nodes

-- A diagram has the same meaning among the new nodes as among the old ones.
pub record IsSame (old new : List Node) (diagram : Diagram) : Type 0 where
  pub within : IsWithin new diagram
  pub top : top_of new diagram ≡ top_of old diagram
  pub value : (cell : ℕ) → diagram_value new diagram cell ≡ diagram_value old diagram cell

-- Each diagram of the old nodes has the same meaning among the new ones.
pub record Keeps (old new : List Node) : Type 0 where
  pub same : (diagram : Diagram) → IsWithin old diagram → IsSame old new diagram
