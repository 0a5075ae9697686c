-- The values so far, and those of the arguments that are left, are the values of all arguments.
use Rattle.std.proofs.Common.{◌≡◌, ◌++◌, length}
use Rattle.clap.specs.Matches.{first_value, found_of}
use Rattle.text_command_line.specs.Arguments.{texts_by, texts_of}
use Rattle.text_command_line.proofs.arguments.copied.Given as goal

abbrev pub invariant-loop-left : goal.invariant-loop-left
invariant-loop-left l =
    texts_of l.values.items ++ texts_by (first_value (found_of l.matches)) l.left ≡ texts_by (first_value (found_of l.matches)) l.arguments

abbrev pub decreases-loop-left : goal.decreases-loop-left
decreases-loop-left l = length l.left
