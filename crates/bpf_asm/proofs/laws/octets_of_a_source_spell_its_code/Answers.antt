use Rattle.bpf_asm.proofs.meanings.Fitting.{meaning-plainly}
use Rattle.bpf_asm.proofs.laws.octets_of_a_source_spell_its_code.Goals as goal

pub returns : goal.returns
returns c = meaning-plainly
