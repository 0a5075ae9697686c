use Rattle.bpf_code.proofs.OneFault.{one-decode_fault}
use Rattle.bpf_code.proofs.laws.octets_have_one_fault.Goals as goal

pub returns : goal.returns
returns c = one-decode_fault
