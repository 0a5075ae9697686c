use Rattle.bpf_code.proofs.Plainly.{plainly-spells, plainly-no_other}
use Rattle.bpf_code.proofs.laws.plain_octets_spell_their_code.Goals as goal

pub returns : goal.returns
returns c octets code plain = (plainly-spells octets code plain, λ other. plainly-no_other octets code other plain)
