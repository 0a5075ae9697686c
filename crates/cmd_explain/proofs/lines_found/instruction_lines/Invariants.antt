-- Loop invariant: the numbers so far, and those of the rest, are all.
use Rattle.std.proofs.Common.{◌≡◌, ◌≤◌, ◌+◌, ◌++◌, length}
use Rattle.bpf_asm.specs.SourceLines.{source_lines}
use Rattle.cmd_explain.specs.LinesFound.{instruction_lines}
use Rattle.cmd_explain.proofs.lines_found.instruction_lines.Given as goal

abbrev pub invariant-loop-line : goal.invariant-loop-line
invariant-loop-line l = record {
  within : l.count + length l.left ≤ length l.source;
  rest : l.numbers.items ++ instruction_lines (l.count + 1) (source_lines l.left) ≡ instruction_lines 1 (source_lines l.source);
}

abbrev pub decreases-loop-line : goal.decreases-loop-line
decreases-loop-line l = length l.left
