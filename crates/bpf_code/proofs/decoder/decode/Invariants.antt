use Rattle.std.proofs.Common.{◌≡◌, ◌≤◌, length, vec_len, vec_capacity}
use Rattle.bpf_code.proofs.Fronts.{IsFront}
use Rattle.bpf_code.proofs.decoder.decode.Given as goal

abbrev pub invariant-loop-at : goal.invariant-loop-at
invariant-loop-at l = record {
  front : IsFront l.octets l.at l.code.items;
  counted : vec_len l.code ≡ l.at;
  room : length l.eights ≤ vec_capacity l.code;
}
