-- Each instruction that the loop reads is the one at the machine's place, and adds its step.
use Rattle.std.proofs.Common.{ap}
use Rattle.std.proofs.lemmas.Result.{on_ok_weaker}
use Rattle.bpf_asm.specs.SourceLines.{source_lines}
use Rattle.cmd_list.proofs.TraceSteps.{reads_written, instr_read, traced_first, traced_on, traced_out}
use Rattle.cmd_list.proofs.tracing.add_trace.Goals as goal

pub loop-steps-init : goal.loop-steps-init
loop-steps-init c = traced_first c.args.program.now c.args.cell.now c.args.answers.now.items c.code-code.ensures.accepted _ c.args.listing.now (ap source_lines c.requires)

pub step-flow-requires-clause-words : goal.step-flow-requires-clause-words
step-flow-requires-clause-words c =
    let instr_there = instr_read c.args.program.now c.code-code.result.now c.loop-steps.registers.pc _ c.code-code.ensures.code c.loop-steps.invariant.within in
    (c.code-code.ensures.accepted.sound c.loop-steps.registers.pc _ instr_there).scratch

pub step-flow-requires-clause-divisor : goal.step-flow-requires-clause-divisor
step-flow-requires-clause-divisor c =
    let instr_there = instr_read c.args.program.now c.code-code.result.now c.loop-steps.registers.pc _ c.code-code.ensures.code c.loop-steps.invariant.within in
    (c.code-code.ensures.accepted.sound c.loop-steps.registers.pc _ instr_there).divisor

pub step-flow-requires-clause-shift : goal.step-flow-requires-clause-shift
step-flow-requires-clause-shift c =
    let instr_there = instr_read c.args.program.now c.code-code.result.now c.loop-steps.registers.pc _ c.code-code.ensures.code c.loop-steps.invariant.within in
    (c.code-code.ensures.accepted.sound c.loop-steps.registers.pc _ instr_there).shift

pub loop-steps-preserved : goal.loop-steps-preserved
loop-steps-preserved c =
    let code = c.args.program.now in
    let traced = c.loop-steps.invariant in
    let instr_there = instr_read code c.code-code.result.now c.loop-steps.registers.pc _ c.code-code.ensures.code traced.within in
    let reads = reads_written code c.args.cell.now c.args.answers.now.items c.loop-steps.answers.items c.loop-steps.registers c.loop-steps.scratch c.loop-steps.steps c.loop-steps.lines.now traced _ instr_there in
    let packet_is = c.bytes.ensures in
    let does = rw (c.in-Continue.is, packet_is) at c.step-flow.ensures.does traced.memory traced.agrees reads in
    traced_on code c.args.cell.now c.args.answers.now.items c.loop-steps.answers.items c.loop-steps.registers c.loop-steps.scratch c.loop-steps.steps c.loop-steps.lines.now traced _ instr_there
    c.in-Continue.next c.first_line.result.now c.add_step.new.answers.items c.lines_after-lines.result.now c.step-flow.new.scratch
    does c.first_line.ensures (rw c.in-Continue.is at c.in_ok-add_step.ensures traced.memory) (rw c.in-Continue.is at c.step-flow.ensures.leads) (rw c.in-Continue.is at c.step-flow.ensures.counted)
    c.lines_after-lines.ensures (c.step-flow.ensures.memory traced.memory traced.agrees)

pub returns-in-Break : goal.returns-in-Break
returns-in-Break c =
    let code = c.args.program.now in
    let traced = c.loop-steps.invariant in
    let instr_there = instr_read code c.code-code.result.now c.loop-steps.registers.pc _ c.code-code.ensures.code traced.within in
    let reads = reads_written code c.args.cell.now c.args.answers.now.items c.loop-steps.answers.items c.loop-steps.registers c.loop-steps.scratch c.loop-steps.steps c.loop-steps.lines.now traced _ instr_there in
    let does = rw (c.in-Break.is, c.bytes.ensures) at c.step-flow.ensures.does traced.memory traced.agrees reads in
    let printed = traced_out code c.args.cell.now c.args.answers.now.items c.loop-steps.answers.items c.loop-steps.registers c.loop-steps.scratch c.loop-steps.steps c.loop-steps.lines.now traced _ instr_there
    c.in-Break.value c.first_line.result.now c.add_step.new.answers.items
    does c.first_line.ensures (rw c.in-Break.is at c.in_ok-add_step.ensures traced.memory) c.add_value.new.answers.items in
    on_ok_weaker c.add_value.result printed c.add_value.ensures
