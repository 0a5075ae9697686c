-- Loop invariant: the words so far are no contracts with a bad bucket.
use Rattle.std.proofs.Common.{◌≡◌, ◌≤◌, ◌+◌, length}
use Rattle.cmd_explain_script.specs.ScriptReasons.{bad_contract}
use Rattle.cmd_explain_script.proofs.reasons.bad_contract.Given as goal

abbrev pub invariant-loop-left : goal.invariant-loop-left
invariant-loop-left l = record {
  within : l.place + length l.left ≤ 4 + length l.words;
  rest : bad_contract l.line l.place l.left ≡ bad_contract l.line 4 l.words;
}

abbrev pub decreases-loop-left : goal.decreases-loop-left
decreases-loop-left l = length l.left
