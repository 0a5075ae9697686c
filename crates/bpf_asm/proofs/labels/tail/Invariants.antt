-- The octets read so far and those that are left give the number of the whole name.
use Rattle.std.proofs.Common.{◌≡◌, drop}
use Rattle.bpf_asm.specs.inner.LabelPlaces.{number_after, tail_number}
use Rattle.bpf_asm.proofs.labels.tail.Given as goal

abbrev pub invariant-loop-octet : goal.invariant-loop-octet
invariant-loop-octet l = number_after l.number (drop l.octet-index l.name) ≡ tail_number l.name
