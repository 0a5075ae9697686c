-- The command with the rows that are left is the command with all rows.
use Rattle.std.proofs.Common.{◌≡◌, fold, length}
use Rattle.clap.specs.Simple.{app_of}
use Rattle.text_command_line.specs.Subcommands.{bare_app, row_names, table_of_rows, with_name}
use Rattle.text_command_line.proofs.subcommands.command_of.Given as goal

abbrev pub invariant-loop-left : goal.invariant-loop-left
invariant-loop-left g l =
    fold with_name (app_of l.command) (row_names (table_of_rows l.left)) ≡ fold with_name (bare_app l.program.name.now l.program.wants_one) (row_names (table_of_rows l.rows))

abbrev pub decreases-loop-left : goal.decreases-loop-left
decreases-loop-left g l = length l.left
