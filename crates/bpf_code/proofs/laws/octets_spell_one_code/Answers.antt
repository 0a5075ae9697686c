use Rattle.bpf_code.proofs.Spelled.{SpellsCode-unique}
use Rattle.bpf_code.proofs.laws.octets_spell_one_code.Goals as goal

pub returns : goal.returns
returns c = SpellsCode-unique
