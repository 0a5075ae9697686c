use Rattle.std.proofs.Common.{◌≡◌, ◌<◌, ◌^◌, drop}
use Rattle.bpf_asm.specs.Numbers.{value_after}
use Rattle.bpf_asm.proofs.token.value.Given as goal

abbrev pub invariant-loop-octet : goal.invariant-loop-octet
invariant-loop-octet l = record {
  small : l.value < 2 ^ 32;
  after : value_after l.base l.value (drop l.octet-index l.digits) ≡ value_after l.base 0 l.digits;
}
