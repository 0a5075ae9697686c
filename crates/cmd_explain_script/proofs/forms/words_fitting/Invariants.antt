-- Loop invariant: the words so far fit.
use Rattle.std.proofs.Common.{◌≡◌, ◌≤◌, ◌+◌, length}
use Rattle.cmd_explain_script.specs.ScriptForms.{words_fitting}
use Rattle.cmd_explain_script.proofs.forms.words_fitting.Given as goal

abbrev pub invariant-loop-left : goal.invariant-loop-left
invariant-loop-left l = record {
  within : l.count + length l.rest ≤ length l.words;
  rest : l.count + words_fitting l.side l.line l.left l.rest ≡ words_fitting l.side l.line l.slots l.words;
}

abbrev pub decreases-loop-left : goal.decreases-loop-left
decreases-loop-left l = length l.left
