-- A directory in terms of its fields, and their invariant.
use Rattle.std.specs.Prelude.{◌≡◌, ℕ, Bool, List}
use Rattle.upc_cell.specs.declared.vc.Vc.{Vc}
use Rattle.line_record.specs.declared.directory.Seating.{Seating}
use Rattle.line_record.specs.Directory.{DirectoryView}
use Rattle.line_record.specs.inner.HeldLines.{KnowsLines}
use Rattle.line_record.specs.inner.ProgramUses.{CountsUses}

-- The directory with these fields.
abbrev pub directory_of : List (Vc × Seating) → ℕ → ℕ → DirectoryView
directory_of seatings lines used = record { seatings = seatings; lines = lines; used = used }

-- The invariant of a directory holds, there are as many seats as lines, the list `held` says which lines have a
-- connection, and the table `counts` counts the uses of each program.
pub record KeepsDirectory (directory : DirectoryView) (seats : ℕ) (held : List Bool) (counts : List ℕ) : Type 0 where
  pub sized : seats ≡ directory.lines
  pub lines : KnowsLines directory held
  pub uses : CountsUses directory counts
