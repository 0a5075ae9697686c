use Rattle.std.proofs.Common.{arith}
use Rattle.bpf_asm.specs.SourceLines.{source_lines}
use Rattle.bpf_asm.proofs.drafts.Sources.{taken_more}
use Rattle.bpf_asm.proofs.assembler.read_source.Goals as goal

pub loop-line-preserved : goal.loop-line-preserved
loop-line-preserved c =
    let read = rw c.in-Some.ensures.lines at c.loop-line.invariant.read in
    record {
      read = taken_more (source_lines c.args.source.now) (source_lines c.in-Some.rest.now) c.in-Some.line.now c.loop-line.draft c.take_line.new.self c.loop-line.count read c.in-Ok.ensures.taken;
      room = omega (arith, c.in-Some.ensures.shorter, c.loop-line.invariant.room);
    }
