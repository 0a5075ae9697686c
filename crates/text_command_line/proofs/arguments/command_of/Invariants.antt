-- The command with the arguments that are left is the command with all of them.
use Rattle.std.proofs.Common.{◌≡◌, fold, length, map}
use Rattle.clap.specs.Simple.{app_of, new_app, with_rule}
use Rattle.text_command_line.specs.Arguments.{rule_of_argument}
use Rattle.text_command_line.proofs.arguments.command_of.Given as goal

abbrev pub invariant-loop-left : goal.invariant-loop-left
invariant-loop-left l =
    fold with_rule (app_of l.command) (map rule_of_argument l.left) ≡ fold with_rule (new_app l.options.name.now) (map rule_of_argument l.options.arguments.now)

abbrev pub decreases-loop-left : goal.decreases-loop-left
decreases-loop-left l = length l.left
