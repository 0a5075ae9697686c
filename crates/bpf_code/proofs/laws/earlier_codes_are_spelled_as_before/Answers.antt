use Rattle.bpf_code.proofs.Earlier.{earlier-spelled, earlier-no_other}
use Rattle.bpf_code.proofs.laws.earlier_codes_are_spelled_as_before.Goals as goal

pub returns : goal.returns
returns c = λ octets code s. (earlier-spelled octets code s, λ other. earlier-no_other octets code other s)
