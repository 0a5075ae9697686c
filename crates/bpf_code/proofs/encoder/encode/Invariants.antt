-- Loop invariant: the octets so far are those of the instructions so far, and spell them.
use Rattle.std.proofs.Common.{◌≡◌, take}
use Rattle.bpf_code.specs.Encoding.{code_octets}
use Rattle.bpf_code.specs.OctetSpelling.{SpellsPlainly}
use Rattle.bpf_code.proofs.encoder.encode.Given as goal

abbrev pub invariant-loop-instr : goal.invariant-loop-instr
invariant-loop-instr l =
    record {
      spells : SpellsPlainly l.octets.items (take l.instr-index l.code);
      octets : l.octets.items ≡ code_octets (take l.instr-index l.code);
    }
