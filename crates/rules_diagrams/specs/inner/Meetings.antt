-- The pairs of numbers that two diagrams give a cell.
use Rattle.std.specs.Prelude.{◌≡◌, ◌≤◌, ◌<◌, ℕ, ◌==◌, Bool, true, false, ◌&&◌, ◌||◌, List, [], ◌∷◌}
use Rattle.std.specs.List.{All}
use Rattle.rules_cells.specs.Fields.{IsCell}
use Rattle.rules_diagrams.specs.CellNumbers.{octets_number}
use Rattle.rules_diagrams.specs.inner.Values.{diagram_value}
use Rattle.rules_diagrams.specs.declared.diagram.Node.{Node}
use Rattle.rules_diagrams.specs.declared.meeting.Both.{Both}
use Rattle.rules_diagrams.specs.declared.meeting.Meeting.{Meeting}

-- Whether these two numbers are among the meetings.
abbrev pub has_pair : List Meeting → ℕ → ℕ → Bool
has_pair [] one other = false
has_pair (meeting ∷ more) one other = ((meeting.one == one) && (meeting.other == other)) || has_pair more one other

-- The two functions give the meeting's cell the two numbers of the meeting. No lesser cell gets both numbers.
pub record IsLeast (one other : ℕ → ℕ) (meeting : Meeting) : Type 0 where
  pub cell : IsCell meeting.cell
  pub one_is : one (octets_number meeting.cell) ≡ meeting.one
  pub other_is : other (octets_number meeting.cell) ≡ meeting.other
  pub least : (cell : ℕ) → one cell ≡ meeting.one → other cell ≡ meeting.other → octets_number meeting.cell ≤ cell

-- No two numbers are among the meetings twice.
abbrev pub ArePairsApart : List Meeting → Type 0
ArePairsApart [] = Unit {0}
ArePairsApart (meeting ∷ more) = (has_pair more meeting.one meeting.other ≡ false) × ArePairsApart more

-- Each meeting has a lesser cell than those after it.
abbrev pub AreMeetingsInOrder : List Meeting → Type 0
AreMeetingsInOrder [] = Unit {0}
AreMeetingsInOrder (meeting ∷ more) = All (λ (later : Meeting). octets_number meeting.cell < octets_number later.cell) more × AreMeetingsInOrder more

-- The meetings of two diagrams: each has the least cell to which they give its numbers; each two numbers that a cell has are among
-- them, once; they are in the order of their cells.
pub record AreMeetings (one other : List Node) (both : Both) (meetings : List Meeting) : Type 0 where
  pub least : All (IsLeast (diagram_value one both.one) (diagram_value other both.other)) meetings
  pub each : (cell : ℕ) → has_pair meetings (diagram_value one both.one cell) (diagram_value other both.other cell) ≡ true
  pub apart : ArePairsApart meetings
  pub ordered : AreMeetingsInOrder meetings
