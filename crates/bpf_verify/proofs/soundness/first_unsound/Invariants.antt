use Rattle.bpf_verify.specs.Faults.{IsSoundBelow}
use Rattle.bpf_verify.proofs.soundness.first_unsound.Given as goal

abbrev pub invariant-loop-at : goal.invariant-loop-at
invariant-loop-at l = IsSoundBelow l.code l.at
