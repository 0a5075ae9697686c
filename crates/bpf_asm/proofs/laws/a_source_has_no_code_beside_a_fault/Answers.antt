use Rattle.bpf_asm.proofs.meanings.NeverBoth.{never_both}
use Rattle.bpf_asm.proofs.laws.a_source_has_no_code_beside_a_fault.Goals as goal

pub returns : goal.returns
returns c = never_both
