-- The rest of the values has the same value of this name as all of them.
use Rattle.std.proofs.Common.{◌≡◌, length}
use Rattle.text_command_line.specs.Arguments.{text_named, texts_of}
use Rattle.text_command_line.proofs.arguments.text_of.Given as goal

abbrev pub invariant-loop-left : goal.invariant-loop-left
invariant-loop-left l = text_named (texts_of l.left) l.name ≡ text_named (texts_of l.values) l.name

abbrev pub decreases-loop-left : goal.decreases-loop-left
decreases-loop-left l = length l.left
