-- The loop of `encode` appends one instruction.
use Rattle.bpf_code.proofs.Plainly.{octets-step, plainly-step}
use Rattle.bpf_code.proofs.encoder.encode.Goals as goal

pub loop-instr-preserved : goal.loop-instr-preserved
loop-instr-preserved c = record {
  spells = plainly-step c.loop-instr.octets.items c.extend_from_slice.new.self.items c.encode_one.result c.args.code.now c.loop-instr.instr-index _
      c.loop-instr-test.true c.loop-instr.invariant.spells c.in-Ok.ensures.items c.encode_one.ensures.spells c.encode_one.ensures.unused;
  octets = octets-step c.loop-instr.octets.items c.extend_from_slice.new.self.items c.encode_one.result c.args.code.now c.loop-instr.instr-index _
      c.loop-instr-test.true c.loop-instr.invariant.octets c.in-Ok.ensures.items c.encode_one.ensures.octets;
}
