-- The number of connections that name a program, as a table of counts.
use Rattle.std.specs.Prelude.{◌≡◌, ℕ, ◌%◌, ◌<◌, ◌≤◌, ◌==◌, Bool, false, Option, Some, None, List, length, slice_get, slice_index, slice_set}
use Rattle.std.specs.List.{count_by}
use Rattle.gen_arena.specs.declared.id.Id.{Id}
use Rattle.upc_cell.specs.declared.vc.Vc.{Vc}
use Rattle.line_record.specs.declared.directory.Seating.{Seating}
use Rattle.line_record.specs.Directory.{DirectoryView, seating_at, IsTakenLine}

-- The place in the table that counts the uses of the program.
abbrev pub use_place : List ℕ → Id → ℕ
use_place counts program = program.slot % length counts

-- The count at the program's place.
abbrev pub uses_of : List ℕ → Id → ℕ
uses_of counts program = slice_index counts (use_place counts program)

-- The table with this count at the program's place.
abbrev pub with_uses : List ℕ → Id → ℕ → List ℕ
with_uses counts program uses = slice_set counts (use_place counts program) uses

-- There is a program, and it is counted at this place of a table of this many places.
abbrev pub is_counted_at : ℕ → ℕ → Option Id → Bool
is_counted_at places place None = false
is_counted_at places place (Some program) = program.slot % places == place

-- The count at each place is the number of programs in the list that are counted there.
pub record CountsPrograms (counts : List ℕ) (named : List (Option Id)) : Type 0 where
  pub some : 0 < length counts
  pub each : (place : ℕ) → place < length counts
      → slice_index counts place ≡ count_by (is_counted_at (length counts) place) named

-- The counts are those of the directory's connections: the list has, for each line, the program that its connection
-- names. There are at most 65535 lines.
pub record CountsUses (directory : DirectoryView) (counts : List ℕ) : Type 0 where
  pub named : List (Option Id)
  pub sized : length named ≡ directory.lines
  pub few : directory.lines ≤ 65535
  pub counted : CountsPrograms counts named
  pub taken : (line : ℕ) (program : Id) → slice_get named line ≡ Some (Some program) → IsTakenLine directory line
  pub names : (vc : Vc) (seating : Seating) → seating_at directory vc ≡ Some seating
      → slice_get named seating.line ≡ Some (Some seating.program)
