-- What is true of the nodes of a store and of its tables.
use Rattle.std.specs.Prelude.{◌≡◌, ◌≤◌, ◌<◌, ℕ, if◌then◌else◌, List, [], ◌∷◌, length}
use Rattle.std.specs.List.{All}
use Rattle.rules_diagrams.specs.inner.CellBits.{is_set}
use Rattle.rules_diagrams.specs.inner.Values.{diagram_value, node_value, node_top, top_of, taken_side, IsWithin}
use Rattle.rules_diagrams.specs.inner.Asking.{IsAnswer}
use Rattle.rules_diagrams.specs.declared.diagram.Diagram.{Diagram}
use Rattle.rules_diagrams.specs.declared.diagram.Diagram.TheVariants.{Leaf, Inner}
use Rattle.rules_diagrams.specs.declared.diagram.Node.{Node}
use Rattle.rules_diagrams.specs.declared.step.Step.{Step}

-- A number above `top_of` of the diagram: that is at most 415 for a node, and 416 for a leaf.
abbrev pub above : Diagram → ℕ
above (Leaf value) = 417
above (Inner number) = 416

-- The node may be put before these nodes: its sides are of them, and ask only for later bits.
pub record IsNode (older : List Node) (node : Node) : Type 0 where
  pub bit : node.bit < 416
  pub low : IsWithin older node.low
  pub high : IsWithin older node.high
  pub low_later : node.bit < top_of older node.low
  pub high_later : node.bit < top_of older node.high

-- Each node could be put before the older ones.
abbrev pub AreNodes : List Node → Type 0
AreNodes [] = Unit {0}
AreNodes (node ∷ older) = IsNode older node × AreNodes older

-- The node has this number.
pub record HasNode (nodes : List Node) (number : ℕ) (node : Node) : Type 0 where
  pub is : IsNode nodes node
  pub top : node_top nodes number ≡ node.bit
  pub value : (cell : ℕ) → node_value nodes cell number ≡ diagram_value nodes (taken_side node cell) cell

-- The diagram `made` gives each cell what `high` gives it if this bit of the cell is set, else what `low` gives it.
pub record DecidesByBit (nodes : List Node) (bit : ℕ) (low high made : Diagram) : Type 0 where
  pub within : IsWithin nodes made
  pub top : bit ≤ top_of nodes made
  pub value : (cell : ℕ) → diagram_value nodes made cell ≡ diagram_value nodes (if is_set cell bit then high else low) cell

-- The nodes and tables of a store: the tables have their lengths, and each choice in the table of choices has its right answer.
pub record IsStore (nodes : List Node) (places : List ℕ) (steps : List Step) : Type 0 where
  pub nodes_are : AreNodes nodes
  pub places_are : length places ≡ 65536
  pub steps_are : length steps ≡ 65536
  pub answers : All (λ step. IsAnswer nodes step.asked step.answer) steps
