use Rattle.bpf_interp.proofs.OneValue.{Value-unique}
use Rattle.bpf_interp.proofs.laws.a_code_has_at_most_one_value.Goals as goal

pub returns : goal.returns
returns c = λ code packet v w n k p q. Value-unique code packet v w n k p q
