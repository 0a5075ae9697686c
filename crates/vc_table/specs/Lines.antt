-- The line of each virtual connection. Contracts see a table through its look-ups.
use Rattle.std.specs.Prelude.{◌≡◌, ◌≢◌, ℕ, zero, suc, ◌+◌, ◌*◌, ◌/◌, ◌%◌, Option, Some, None, List, slice_index}
use Rattle.upc_cell.specs.declared.vc.Vc.{Vc}

-- The numbers of a table. The row leads to groups of 64, these to the marks of 64 channels. A mark is 0, or a line plus 1.
pub record ConnectionTable : Type 0 where
  pub row : List ℕ
  pub groups : List ℕ
  pub marks : List ℕ

-- The place in the row of the connection's path with the upper four bits of its channel.
abbrev pub row_place : Vc → ℕ
row_place vc = 4096 * (vc.vci / 4096) + vc.vpi

-- The place, among the numbers of the groups, of the link to the connection's block of marks.
abbrev pub group_place : List ℕ → Vc → ℕ
group_place row vc = 64 * slice_index row (row_place vc) + vc.vci / 64 % 64

-- The place of the connection's mark.
abbrev pub mark_place : List ℕ → List ℕ → Vc → ℕ
mark_place row groups vc = 64 * slice_index groups (group_place row vc) + vc.vci % 64

-- The line of this mark: the mark minus 1. None if the mark is 0.
abbrev pub line_of_mark : ℕ → Option ℕ
line_of_mark zero = None
line_of_mark (suc line) = Some line

-- The line of the connection, if it has one.
abbrev pub line_of : ConnectionTable → Vc → Option ℕ
line_of table vc = line_of_mark (slice_index table.marks (mark_place table.row table.groups vc))

-- Each connection has the same line in the new table as in the old one, or none in both.
abbrev pub HasSameLines : ConnectionTable → ConnectionTable → Type 0
HasSameLines old new = (vc : Vc) → line_of new vc ≡ line_of old vc

-- The connection has this line in the new table, or none. All other connections have the same as before.
pub record MovesTo (old : ConnectionTable) (vc : Vc) (line : Option ℕ) (new : ConnectionTable) : Type 0 where
  pub here : line_of new vc ≡ line
  pub others : (other : Vc) → other ≢ vc → line_of new other ≡ line_of old other
