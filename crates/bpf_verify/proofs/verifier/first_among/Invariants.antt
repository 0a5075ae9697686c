use Rattle.std.proofs.Common.{◌≡◌, ℕ, ◌<◌, length, get_or}
use Rattle.bpf_verify.specs.Faults.{IsSoundBelow}
use Rattle.bpf_verify.specs.Paths.{IsWrittenAt}
use Rattle.bpf_verify.proofs.Masks.{AreWritten}
use Rattle.bpf_verify.proofs.verifier.first_among.Given as goal

abbrev pub invariant-loop-at : goal.invariant-loop-at
invariant-loop-at l = record {
  size : length l.code < length l.written;
  here : l.here ≡ get_or l.written l.at 0;
  sound : IsSoundBelow l.code l.at;
  marks : AreWritten l.code l.written l.at;
  before : (place : ℕ) → place < l.at → IsWrittenAt l.code place;
}
