use Rattle.bpf_interp.proofs.HasValue.{Value-some}
use Rattle.bpf_interp.proofs.OneValue.{Value-unique}
use Rattle.bpf_interp.proofs.laws.an_accepted_code_has_one_value.Goals as goal

pub returns : goal.returns
returns c = λ code packet accepted.
    let found = Value-some code packet accepted in
    (found.0, found.1, found.2, found.3, λ other other_steps v. Value-unique code packet other found.0 other_steps found.1 v found.2)
