-- A table in terms of its fields, and their invariant.
use Rattle.std.specs.Prelude.{◌≡◌, ◌≢◌, ℕ, List, length, slice_index}
use Rattle.upc_cell.specs.declared.vc.Vc.{Vc}
use Rattle.vc_table.specs.Lines.{ConnectionTable, row_place, group_place, mark_place}
use Rattle.vc_table.specs.inner.Pool.{Pool}
use Rattle.vc_table.specs.inner.Linked.{IsLinked}

-- The table with these fields.
abbrev pub table_of : List ℕ → List ℕ → List ℕ → ConnectionTable
table_of row groups marks = record { row = row; groups = groups; marks = marks }

-- The row has a place for each path and each value of a channel's upper four bits. The row links to the groups, and the
-- groups link to the blocks of marks.
pub record KeepsTable (row : List ℕ) (groups lines : Pool) : Type 0 where
  pub rows : length row ≡ 65536
  pub upper : IsLinked row groups
  pub lower : IsLinked groups.entries lines

-- The connection has a group and a block of marks.
pub record HasBlock (row groups : List ℕ) (vc : Vc) : Type 0 where
  pub group : slice_index row (row_place vc) ≢ 0
  pub block : slice_index groups (group_place row vc) ≢ 0

-- With the new links each connection has the same mark as with the old ones.
abbrev pub HasSameMarks : List ℕ → List ℕ → List ℕ → List ℕ → List ℕ → Type 0
HasSameMarks old_row old_groups new_row new_groups marks = (vc : Vc)
    → slice_index marks (mark_place new_row new_groups vc) ≡ slice_index marks (mark_place old_row old_groups vc)
