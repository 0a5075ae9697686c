-- Loop invariant: the same lines have words.
use Rattle.std.proofs.Common.{◌≡◌, length}
use Rattle.bpf_asm.specs.SourceLines.{source_lines}
use Rattle.cmd_differ.specs.ProgramText.{spoken_lines}
use Rattle.cmd_differ.proofs.program_text.spoken_line.Given as goal

abbrev pub invariant-loop-line : goal.invariant-loop-line
invariant-loop-line l = spoken_lines (source_lines l.text) ≡ spoken_lines (source_lines l.left)

abbrev pub decreases-loop-line : goal.decreases-loop-line
decreases-loop-line l = length l.left
