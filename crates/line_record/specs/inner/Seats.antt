-- The seats of a directory: for each line, the connection that has it, with its seating. A table has the line of each
-- connection.
use Rattle.std.specs.Prelude.{◌≡◌, ℕ, Bool, false, Option, Some, None, List, [], ◌∷◌, slice_get}
use Rattle.gen_arena.specs.declared.id.Id.{Id}
use Rattle.gen_arena.specs.SameId.{is_same_id}
use Rattle.upc_cell.specs.declared.vc.Vc.{Vc}
use Rattle.vc_table.specs.Lines.{ConnectionTable, line_of}
use Rattle.line_record.specs.declared.directory.Seating.{Seating}

-- A place for each line: the connection that has it, with its seating.
abbrev pub LineSeats : Type 0
LineSeats = List (Option (Vc × Seating))

-- The seatings of the held lines, in the order of the lines.
abbrev pub seated : LineSeats → List (Vc × Seating)
seated [] = []
seated (None ∷ later) = seated later
seated (Some seating ∷ later) = seating ∷ seated later

-- Whether there is a seating that names the program.
abbrev pub names_program : Id → Option (Vc × Seating) → Bool
names_program program None = false
names_program program (Some seat) = is_same_id seat.1.program program

-- The connection has a seating at this line.
pub record HasSeat (seats : LineSeats) (line : ℕ) (vc : Vc) : Type 0 where
  pub seating : Seating
  pub there : slice_get seats line ≡ Some (Some (vc, seating))

-- The table leads from each connection to its line, and from no other connection anywhere. Each seating has its own line.
pub record KeepsSeats (table : ConnectionTable) (seats : LineSeats) : Type 0 where
  pub found : (vc : Vc) (line : ℕ) → line_of table vc ≡ Some line → HasSeat seats line vc
  pub kept : (line : ℕ) (vc : Vc) (seating : Seating) → slice_get seats line ≡ Some (Some (vc, seating))
      → line_of table vc ≡ Some line
  pub own : (line : ℕ) (vc : Vc) (seating : Seating) → slice_get seats line ≡ Some (Some (vc, seating))
      → seating.line ≡ line
