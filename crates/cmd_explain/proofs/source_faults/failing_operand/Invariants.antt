-- Loop invariant: none of the operands so far has the fault.
use Rattle.std.proofs.Common.{◌≡◌, length}
use Rattle.bpf_asm.specs.SourceLines.{source_lines}
use Rattle.cmd_explain.specs.SourceReasons.{failing_operand}
use Rattle.cmd_explain.proofs.source_faults.failing_operand.Given as goal

abbrev pub invariant-loop-left : goal.invariant-loop-left
invariant-loop-left l =
    failing_operand (source_lines l.source) l.fault l.numbers l.text l.after l.left ≡ failing_operand (source_lines l.source) l.fault l.numbers l.text l.begins l.tokens

abbrev pub decreases-loop-left : goal.decreases-loop-left
decreases-loop-left l = length l.left
