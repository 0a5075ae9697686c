-- The rest of the rows has the same row of this name as all of them.
use Rattle.std.proofs.Common.{◌≡◌, length}
use Rattle.text_command_line.specs.Subcommands.{meaning_in, table_of_rows}
use Rattle.text_command_line.proofs.subcommands.meaning_in.Given as goal

abbrev pub invariant-loop-left : goal.invariant-loop-left
invariant-loop-left g l = meaning_in (table_of_rows l.left) l.name ≡ meaning_in (table_of_rows l.rows) l.name

abbrev pub decreases-loop-left : goal.decreases-loop-left
decreases-loop-left g l = length l.left
