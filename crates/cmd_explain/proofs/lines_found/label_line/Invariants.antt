-- Loop invariant: the lines so far have other labels.
use Rattle.std.proofs.Common.{◌≡◌, ◌≤◌, ◌+◌, length}
use Rattle.bpf_asm.specs.SourceLines.{source_lines}
use Rattle.cmd_explain.specs.LinesFound.{label_line}
use Rattle.cmd_explain.proofs.lines_found.label_line.Given as goal

abbrev pub invariant-loop-line : goal.invariant-loop-line
invariant-loop-line l = record {
  within : l.count + length l.left ≤ length l.source;
  rest : label_line l.label (l.count + 1) (source_lines l.left) ≡ label_line l.label 1 (source_lines l.source);
}

abbrev pub decreases-loop-line : goal.decreases-loop-line
decreases-loop-line l = length l.left
