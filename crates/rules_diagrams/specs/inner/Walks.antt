-- What is true while two diagrams are walked through, with the cells in order.
use Rattle.std.specs.Prelude.{◌≡◌, ◌<◌, ℕ, ◌+◌, ◌-◌, ◌/◌, ◌%◌, ◌^◌, min, true, if◌then◌else◌, List, [], ◌∷◌, ◌++◌, length, Option, IfSome}
use Rattle.std.specs.List.{All}
use Rattle.rules_cells.specs.Fields.{IsCell}
use Rattle.rules_diagrams.specs.CellNumbers.{octets_number}
use Rattle.rules_diagrams.specs.inner.Values.{diagram_value, top_of}
use Rattle.rules_diagrams.specs.inner.Meetings.{has_pair, IsLeast, ArePairsApart, AreMeetingsInOrder}
use Rattle.rules_diagrams.specs.declared.diagram.Node.{Node}
use Rattle.rules_diagrams.specs.declared.meeting.Both.{Both}
use Rattle.rules_diagrams.specs.declared.meeting.Meeting.{Meeting}

-- The first bit that one of two diagrams asks for, 416 if none does.
abbrev pub both_top : List Node → List Node → Both → ℕ
both_top one other both = min 416 (min (top_of one both.one) (top_of other both.other))

-- Each two numbers that two diagrams give a cell are among the meetings.
abbrev pub Covers : List Node → List Node → List Meeting → Both → Type 0
Covers one other meetings both = (cell : ℕ) → has_pair meetings (diagram_value one both.one cell) (diagram_value other both.other cell) ≡ true

-- The meetings of what was seen are there.
pub record AreSeen (one other : List Node) (meetings : List Meeting) (seen : List (Option Both)) : Type 0 where
  pub size : length seen ≡ 65536
  pub covered : All (λ place. IfSome place (Covers one other meetings)) seen

-- No bit of the cell from this one on is set.
pub record IsClearFrom (bit : ℕ) (cell : List ℕ) : Type 0 where
  pub is : IsCell cell
  pub clear : octets_number cell % 2 ^ (416 - bit) ≡ 0

-- The cells that begin as this one up to the first bit of two diagrams have the numbers of these diagrams.
abbrev pub LeadsToBoth : List Node → List Node → (ℕ → ℕ) → (ℕ → ℕ) → Both → ℕ → Type 0
LeadsToBoth one other first second both at = (cell : ℕ) → cell / 2 ^ (416 - both_top one other both) ≡ at / 2 ^ (416 - both_top one other both)
    → (first cell ≡ diagram_value one both.one cell) × (second cell ≡ diagram_value other both.other cell)

-- The numbers of each cell less than this one are among the meetings.
abbrev pub IsDone : (ℕ → ℕ) → (ℕ → ℕ) → List Meeting → ℕ → Type 0
IsDone first second meetings at = (cell : ℕ) → cell < at → has_pair meetings (first cell) (second cell) ≡ true

-- The cell of each meeting is less than this number.
abbrev pub AreBelow : ℕ → List Meeting → Type 0
AreBelow end meetings = All (λ (meeting : Meeting). octets_number meeting.cell < end) meetings

-- The meetings after two diagrams were walked through, from a cell on.
pub record IsWalked (one other : List Node) (before after : List Meeting) (seen : List (Option Both)) (both : Both) (at : ℕ) : Type 0 where
  pub seen_are : AreSeen one other after seen
  pub grows : (first second : ℕ) → has_pair before first second ≡ true → has_pair after first second ≡ true
  pub covers : Covers one other after both
  pub apart : ArePairsApart before → ArePairsApart after
  pub least : (first second : ℕ → ℕ) → LeadsToBoth one other first second both at → IsDone first second before at → All (IsLeast first second) before
      → All (IsLeast first second) after
  pub ordered : AreBelow at before → AreMeetingsInOrder before → AreBelow (at + 2 ^ (416 - both_top one other both)) after × AreMeetingsInOrder after

-- The meetings with one more, if its numbers aren't among them.
abbrev pub with_meeting : List Meeting → Meeting → List Meeting
with_meeting meetings meeting = if has_pair meetings meeting.one meeting.other then meetings else meetings ++ meeting ∷ []
