use Rattle.bpf_asm.proofs.meanings.OneFault.{fault_once}
use Rattle.bpf_asm.proofs.laws.a_source_has_one_fault.Goals as goal

pub returns : goal.returns
returns c = fault_once
