use Rattle.bpf_asm.proofs.meanings.OneMeaning.{meaning_once}
use Rattle.bpf_asm.proofs.laws.a_source_means_one_code.Goals as goal

pub returns : goal.returns
returns c = meaning_once
