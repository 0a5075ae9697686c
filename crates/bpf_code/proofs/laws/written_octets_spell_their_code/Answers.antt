use Rattle.bpf_code.proofs.Written.{code_octets-plainly}
use Rattle.bpf_code.proofs.laws.written_octets_spell_their_code.Goals as goal

pub returns : goal.returns
returns c = code_octets-plainly
