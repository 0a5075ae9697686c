use Rattle.std.proofs.Common.{◌+◌, ◌≤◌, length}
use Rattle.bpf_asm.specs.SourceLines.{source_lines}
use Rattle.bpf_asm.specs.inner.Drafts.{IsDraftTo}
use Rattle.bpf_asm.proofs.assembler.read_source.Given as goal

abbrev pub invariant-loop-line : goal.invariant-loop-line
invariant-loop-line l = record {
  read : IsDraftTo (source_lines l.source) (source_lines l.left) l.draft l.count;
  room : l.count + length l.left ≤ length l.source;
}

abbrev pub decreases-loop-line : goal.decreases-loop-line
decreases-loop-line l = length l.left
