use Rattle.bpf_verify.proofs.Masks.{all_begin}
use Rattle.bpf_verify.proofs.verifier.first_in_short.Goals as goal

pub first_among-requires-clause-full : goal.first_among-requires-clause-full
first_among-requires-clause-full c place lt = all_begin 256 65535 place lt
