-- Loop invariant: the answer begins with none of the rows so far.
use Rattle.std.proofs.Common.{◌≡◌, length, map}
use Rattle.cmd_explain_script.specs.ScriptFaults.{fault_among}
use Rattle.cmd_explain_script.proofs.script_faults.fault_among.Given as goal

abbrev pub invariant-loop-left : goal.invariant-loop-left
invariant-loop-left l = fault_among l.answer (map (λ row. (row.0.now, row.1)) l.left) ≡ fault_among l.answer (map (λ row. (row.0.now, row.1)) l.rows)

abbrev pub decreases-loop-left : goal.decreases-loop-left
decreases-loop-left l = length l.left
