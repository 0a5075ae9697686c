use Rattle.bpf_code.proofs.OneFault.{code-no_fault}
use Rattle.bpf_code.proofs.laws.octets_of_a_code_have_no_fault.Goals as goal

pub returns : goal.returns
returns c = code-no_fault
