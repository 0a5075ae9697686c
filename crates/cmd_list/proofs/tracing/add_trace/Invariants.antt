-- Loop invariant: the lines of the steps so far were added.
use Rattle.std.proofs.Common.{◌-◌, length}
use Rattle.cmd_list.specs.inner.SoFar.{IsTraced}
use Rattle.cmd_list.proofs.tracing.add_trace.Given as goal

abbrev pub invariant-loop-steps : goal.invariant-loop-steps
invariant-loop-steps l = IsTraced l.program l.cell l.fn.answers.items l.answers.items l.registers l.scratch l.steps l.lines

abbrev pub decreases-loop-steps : goal.decreases-loop-steps
decreases-loop-steps l = length l.program - l.registers.pc
