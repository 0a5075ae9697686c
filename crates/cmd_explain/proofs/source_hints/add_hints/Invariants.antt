-- Loop invariant: the hints so far, and those about the rest of the code on the rest of the lines, are all.
use Rattle.std.proofs.Common.{◌≡◌, ◌≤◌, ◌+◌, ◌++◌, length}
use Rattle.bpf_asm.specs.SourceLines.{source_lines}
use Rattle.cmd_explain.specs.SourceHints.{hints_from}
use Rattle.cmd_explain.proofs.source_hints.add_hints.Given as goal

abbrev pub invariant-loop-line : goal.invariant-loop-line
invariant-loop-line l = record {
  within : l.count + length l.left ≤ length l.source;
  rest : l.answers.items ++ hints_from (l.count + 1) (source_lines l.left) l.later ≡ l.fn.answers.items ++ hints_from 1 (source_lines l.source) l.code;
}

abbrev pub decreases-loop-line : goal.decreases-loop-line
decreases-loop-line l = length l.left
