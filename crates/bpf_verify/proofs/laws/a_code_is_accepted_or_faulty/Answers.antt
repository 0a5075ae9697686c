use Rattle.bpf_verify.proofs.Decided.{accepted-or_fault}
use Rattle.bpf_verify.proofs.laws.a_code_is_accepted_or_faulty.Goals as goal

pub returns : goal.returns
returns c = accepted-or_fault
