use Rattle.bpf_verify.proofs.FirstFault.{one_comes_first}
use Rattle.bpf_verify.proofs.laws.one_fault_comes_first.Goals as goal

pub returns : goal.returns
returns c = one_comes_first
