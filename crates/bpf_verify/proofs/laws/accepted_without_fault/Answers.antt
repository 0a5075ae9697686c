use Rattle.bpf_verify.proofs.FirstFault.{accepted-without_fault, refused-from_fault}
use Rattle.bpf_verify.proofs.laws.accepted_without_fault.Goals as goal

pub returns : goal.returns
returns c code = (λ accepted fault fails. refused-from_fault code fault fails accepted, accepted-without_fault code)
