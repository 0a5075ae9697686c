use Rattle.bpf_asm.proofs.totality.CodeOrFault.{meaning-or_fault}
use Rattle.bpf_asm.proofs.laws.a_source_has_a_code_or_a_fault.Goals as goal

pub returns : goal.returns
returns c = meaning-or_fault
