-- Loop invariant: the instructions so far name no contract.
use Rattle.std.proofs.Common.{◌≡◌, length}
use Rattle.cmd_explain_script.specs.ContractNumbers.{names_no_contract}
use Rattle.cmd_explain_script.proofs.contract_numbers.names_no_contract.Given as goal

abbrev pub invariant-loop-left : goal.invariant-loop-left
invariant-loop-left l = names_no_contract l.left l.count ≡ names_no_contract l.code l.count

abbrev pub decreases-loop-left : goal.decreases-loop-left
decreases-loop-left l = length l.left
