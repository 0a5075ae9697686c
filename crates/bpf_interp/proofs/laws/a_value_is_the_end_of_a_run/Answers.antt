use Rattle.bpf_interp.proofs.RunStates.{IsRun-value, Value-run}
use Rattle.bpf_interp.proofs.laws.a_value_is_the_end_of_a_run.Goals as goal

pub returns : goal.returns
returns c = λ code packet value steps. (λ run. IsRun-value code packet run.0 value steps run.1, Value-run code packet value steps)
