-- Loop invariant: the tokens so far fit.
use Rattle.std.proofs.Common.{◌≡◌, ◌≤◌, ◌+◌, length}
use Rattle.cmd_explain.specs.Forms.{fitting}
use Rattle.cmd_explain.proofs.forms.fitting.Given as goal

abbrev pub invariant-loop-wanted : goal.invariant-loop-wanted
invariant-loop-wanted l = record {
  within : l.count + length l.left ≤ length l.tokens;
  rest : l.count + fitting l.text l.wanted l.left ≡ fitting l.text l.slots l.tokens;
}

abbrev pub decreases-loop-wanted : goal.decreases-loop-wanted
decreases-loop-wanted l = length l.wanted
