-- The numbers that a diagram gives cells.
use Rattle.std.specs.Prelude.{◌≡◌, ℕ, zero, suc, Bool, true, false, ◌==◌, ◌||◌, List, [], ◌∷◌}
use Rattle.std.specs.BTreeSet.{BTreeSet, contains}
use Rattle.std.specs.Ordering.{nat_cmp}
use Rattle.rules_cells.specs.Fields.{IsCell}
use Rattle.rules_diagrams.specs.CellNumbers.{octets_number}
use Rattle.rules_diagrams.specs.inner.Values.{diagram_value}
use Rattle.rules_diagrams.specs.declared.diagram.Diagram.{Diagram}
use Rattle.rules_diagrams.specs.declared.diagram.Node.{Node}
use Rattle.rules_diagrams.specs.declared.meeting.Meeting.{Meeting}

-- Whether this is the first number of a meeting.
abbrev pub has_one : List Meeting → ℕ → Bool
has_one [] number = false
has_one (meeting ∷ more) number = (meeting.one == number) || has_one more number

-- The set has the numbers that the diagram gives cells, and no other.
pub record AreGivenNumbers (nodes : List Node) (diagram : Diagram) (numbers : BTreeSet ℕ) : Type 0 where
  pub each : (cell : ℕ) → contains nat_cmp numbers (diagram_value nodes diagram cell) ≡ true
  pub only : (number : ℕ) → contains nat_cmp numbers number ≡ true → (cell : List ℕ) × IsCell cell × (diagram_value nodes diagram (octets_number cell) ≡ number)

-- The places of the lines with these numbers: a line's number is one more than its place, and 0 is that of no line.
abbrev pub places_of : List ℕ → List ℕ
places_of [] = []
places_of (zero ∷ more) = places_of more
places_of (suc place ∷ more) = place ∷ places_of more
