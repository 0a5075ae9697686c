-- Loop invariant: as many lines were passed as the counter says.
use Rattle.std.proofs.Common.{◌≡◌, drop}
use Rattle.bpf_asm.specs.SourceLines.{source_lines}
use Rattle.cmd_programs.proofs.source_lines.lines_after.Given as goal

abbrev pub invariant-loop : goal.invariant-loop
invariant-loop l = source_lines l.left ≡ drop l.counter (source_lines l.text)
