use Rattle.bpf_code.proofs.Total.{code-or_fault}
use Rattle.bpf_code.proofs.laws.octets_spell_a_code_or_are_faulty.Goals as goal

pub returns : goal.returns
returns c = code-or_fault
