-- Loop invariant: the commands so far, and those of the lines that are left, are those of the script.
use Rattle.std.proofs.Common.{◌≡◌, ◌++◌, length, map}
use Rattle.text_io.specs.Lines.{lines_of}
use Rattle.cmd_setups.specs.TimedLines.{waiting_at}
use Rattle.cmd_setups.specs.StoredCommands.{shown_command}
use Rattle.cmd_setups.proofs.stored_commands.commands_at.Given as goal

abbrev pub invariant-loop-later : goal.invariant-loop-later
invariant-loop-later l =
    map shown_command l.all.items ++ waiting_at l.tick.nanoseconds l.later (lines_of l.left) ≡ waiting_at l.tick.nanoseconds l.times (lines_of l.script)

abbrev pub decreases-loop-later : goal.decreases-loop-later
decreases-loop-later l = length l.later
