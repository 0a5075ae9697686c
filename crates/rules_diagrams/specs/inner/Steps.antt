-- The parts of a choice at a bit.
use Rattle.std.specs.Prelude.{◌≡◌, ◌<◌, ℕ, if◌then◌else◌, List}
use Rattle.rules_diagrams.specs.inner.CellBits.{is_set}
use Rattle.rules_diagrams.specs.inner.Values.{diagram_value, top_of, IsWithin}
use Rattle.rules_diagrams.specs.declared.diagram.Diagram.{Diagram}
use Rattle.rules_diagrams.specs.declared.diagram.Node.{Node}
use Rattle.rules_diagrams.specs.declared.step.Asked.{Asked}

-- The diagrams of the cells in which a bit isn't set and in which it is.
pub record AreSides (nodes : List Node) (diagram : Diagram) (bit : ℕ) (low high : Diagram) : Type 0 where
  pub low_within : IsWithin nodes low
  pub high_within : IsWithin nodes high
  pub low_later : bit < top_of nodes low
  pub high_later : bit < top_of nodes high
  pub value : (cell : ℕ) → diagram_value nodes diagram cell ≡ diagram_value nodes (if is_set cell bit then high else low) cell

-- The parts of a choice.
pub record AreChoiceParts (nodes : List Node) (asked : Asked) (bit : ℕ) (low high : Asked) : Type 0 where
  pub test : AreSides nodes asked.test bit low.test high.test
  pub one : AreSides nodes asked.one bit low.one high.one
  pub other : AreSides nodes asked.other bit low.other high.other
