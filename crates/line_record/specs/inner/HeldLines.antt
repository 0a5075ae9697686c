-- Which lines of a directory are held.
use Rattle.std.specs.Prelude.{◌≡◌, ℕ, Bool, true, false, Some, List, length, slice_get}
use Rattle.line_record.specs.Directory.{DirectoryView, IsDirectory, IsOpenLine, IsTakenLine}

-- The invariant of a directory holds, and the list has, for each line, whether some connection has it.
pub record KnowsLines (directory : DirectoryView) (held : List Bool) : Type 0 where
  pub kept : IsDirectory directory
  pub sized : length held ≡ directory.lines
  pub taken : (line : ℕ) → slice_get held line ≡ Some true → IsTakenLine directory line
  pub free : (line : ℕ) → slice_get held line ≡ Some false → IsOpenLine directory line
