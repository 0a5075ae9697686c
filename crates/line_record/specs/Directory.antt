-- The line of each connection. Contracts see a directory through its look-ups.
use Rattle.std.specs.Prelude.{◌≡◌, ◌≢◌, ℕ, suc, ◌^◌, ◌<◌, ◌≤◌, Option, Some, None, List}
use Rattle.gen_arena.specs.declared.id.Id.{Id}
use Rattle.upc_cell.specs.declared.vc.Vc.{Vc}
use Rattle.line_record.specs.declared.directory.Seating.{Seating}
use Rattle.line_record.specs.Seatings.{seating_in}

-- The seating of each connection, the number of lines, and the number of incarnations given so far.
pub record DirectoryView : Type 0 where
  pub seatings : List (Vc × Seating)
  pub lines : ℕ
  pub used : ℕ

-- The seating of the connection, if it has one.
abbrev pub seating_at : DirectoryView → Vc → Option Seating
seating_at directory vc = seating_in directory.seatings vc

-- No connection has this line.
abbrev pub IsOpenLine : DirectoryView → ℕ → Type 0
IsOpenLine directory line = (vc : Vc) (seating : Seating) → seating_at directory vc ≡ Some seating → seating.line ≢ line

-- Some connection has this line.
pub record IsTakenLine (directory : DirectoryView) (line : ℕ) : Type 0 where
  pub vc : Vc
  pub seating : Seating
  pub sits : seating_at directory vc ≡ Some seating
  pub there : seating.line ≡ line

-- Some connection names the program.
pub record IsNamed (directory : DirectoryView) (program : Id) : Type 0 where
  pub vc : Vc
  pub seating : Seating
  pub sits : seating_at directory vc ≡ Some seating
  pub names : seating.program ≡ program

-- The connection has this seating in the new directory, or none. All other connections have the same as before, and the
-- number of lines is unchanged.
pub record Sits (old : DirectoryView) (vc : Vc) (seating : Option Seating) (new : DirectoryView) : Type 0 where
  pub here : seating_at new vc ≡ seating
  pub others : (other : Vc) → other ≢ vc → seating_at new other ≡ seating_at old other
  pub same_lines : new.lines ≡ old.lines

-- A directory of this many lines without connections. The incarnation that it gives next is this one.
pub record IsEmpty (directory : DirectoryView) (all first : ℕ) : Type 0 where
  pub empty : (vc : Vc) → seating_at directory vc ≡ None
  pub lines : directory.lines ≡ all
  pub used : suc directory.used ≡ first

-- Invariant of a directory: no two connections have the same line, each connection's line is one of the directory's,
-- and its incarnation is one of those given so far.
pub record IsDirectory (directory : DirectoryView) : Type 0 where
  pub apart : (one other : Vc) (seating another : Seating)
      → seating_at directory one ≡ Some seating → seating_at directory other ≡ Some another
      → seating.line ≡ another.line → one ≡ other
  pub within : (vc : Vc) (seating : Seating) → seating_at directory vc ≡ Some seating
      → seating.line < directory.lines
  pub given : (vc : Vc) (seating : Seating) → seating_at directory vc ≡ Some seating
      → (1 ≤ seating.incarnation) × (seating.incarnation ≤ directory.used)
  pub most : directory.used ≤ 2 ^ 62
