-- The connections of a directory with their seatings, and the number of lines.
use Rattle.std.specs.Prelude.{ℕ, List}
use Rattle.upc_cell.specs.declared.vc.Vc.{Vc}
use Rattle.line_record.specs.declared.directory.Seating.{Seating}

-- The seatings, and the number of lines.
pub record SeatsView : Type 0 where
  pub seatings : List (Vc × Seating)
  pub lines : ℕ
