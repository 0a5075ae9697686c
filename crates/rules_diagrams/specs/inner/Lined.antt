-- The diagrams of lines, read from the last to the first.
use Rattle.std.specs.Prelude.{ℕ, zero, suc, List, [], ◌∷◌}
use Rattle.upc_cell.specs.declared.side.Side.{Side}
use Rattle.rules_cells.specs.Decisions.{decision_from}
use Rattle.rules_cells.specs.declared.rules.RuleLine.{RuleLine}
use Rattle.rules_diagrams.specs.inner.Lines.{line_number}
use Rattle.rules_diagrams.specs.inner.Stacks.{first_diagram}
use Rattle.rules_diagrams.specs.inner.Tells.{GivesNumber}
use Rattle.rules_diagrams.specs.inner.Values.{IsWithin}
use Rattle.rules_diagrams.specs.declared.diagram.Diagram.{Diagram}
use Rattle.rules_diagrams.specs.declared.diagram.Diagram.TheVariants.{Leaf}
use Rattle.rules_diagrams.specs.declared.diagram.Node.{Node}

-- The diagram after this many blocks that are passed over: that of the lines read so far, or of those after the ends of blocks.
abbrev pub lined_at : Diagram → List Diagram → ℕ → Diagram
lined_at so_far outer zero = so_far
lined_at so_far [] (suc passed) = Leaf 0
lined_at so_far (first ∷ more) (suc passed) = lined_at first more passed

-- The first of the diagrams after the ends of blocks. Where no end follows, it is that of no line.
abbrev pub first_outer : List Diagram → Diagram
first_outer outer = first_diagram (Leaf 0) outer

-- All of these diagrams are of these nodes.
abbrev pub AreAllWithin : List Node → Diagram → List Diagram → Type 0
AreAllWithin nodes so_far outer = (passed : ℕ) → IsWithin nodes (lined_at so_far outer passed)

-- Each of these diagrams gives each cell the number of the line that decides it, where so many blocks are passed over before these lines.
abbrev pub AreLined : List Node → Side → List RuleLine → ℕ → ℕ → Diagram → List Diagram → Type 0
AreLined nodes side lines place otherwise so_far outer = (passed : ℕ)
    → GivesNumber nodes (λ cell. line_number (decision_from side lines place passed otherwise cell).line) (lined_at so_far outer passed)
