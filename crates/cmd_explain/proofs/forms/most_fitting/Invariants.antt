-- Loop invariant: the most of the shapes so far and of the rest is the most of all.
use Rattle.std.proofs.Common.{◌≡◌, length, max}
use Rattle.cmd_explain.specs.Forms.{most_fitting, shapes_of}
use Rattle.cmd_explain.proofs.forms.most_fitting.Given as goal

abbrev pub invariant-loop-left : goal.invariant-loop-left
invariant-loop-left l = max l.most (most_fitting l.text l.left l.tokens) ≡ most_fitting l.text (shapes_of l.fn.form) l.tokens

abbrev pub decreases-loop-left : goal.decreases-loop-left
decreases-loop-left l = length l.left
