use Rattle.std.proofs.Common.{◌≡◌, ◌++◌, length}
use Rattle.cmd_setups.specs.FileNames.{escaped_name}
use Rattle.cmd_setups.proofs.file_names.add_escaped_name.Given as goal

abbrev pub invariant-loop-left : goal.invariant-loop-left
invariant-loop-left l = l.text.items ++ escaped_name l.left ≡ l.initial.text.items ++ escaped_name l.name

abbrev pub decreases-loop-left : goal.decreases-loop-left
decreases-loop-left l = length l.left
