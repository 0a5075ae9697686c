-- Loop invariant: the files so far and those of the lines that are left are those of the script.
use Rattle.std.proofs.Common.{◌≡◌, ◌++◌, ◌+◌, ◌≤◌, length}
use Rattle.text_io.specs.Lines.{lines_of}
use Rattle.cmd_setups.specs.FilesRead.{files_in, files_read_plain, octets_of_names}
use Rattle.cmd_setups.proofs.card_room.files_of_lines.Given as goal

abbrev pub invariant-loop-line : goal.invariant-loop-line
invariant-loop-line l = record {
  counted : l.met + length l.left ≤ length l.script;
  files : octets_of_names l.files.items ++ files_in l.met l.room (lines_of l.left) ≡ files_read_plain l.script;
}

abbrev pub decreases-loop-line : goal.decreases-loop-line
decreases-loop-line l = length l.left
