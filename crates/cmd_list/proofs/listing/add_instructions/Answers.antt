-- One line more, and the end.
use Rattle.std.proofs.Common.{◌∙◌, ◌++◌, arith}
use Rattle.cmd_list.proofs.Lists.{drop_one}
use Rattle.cmd_list.proofs.ListSteps.{first_left, printed_all, printed_more}
use Rattle.cmd_list.specs.Comments.{listed_lines}
use Rattle.cmd_list.specs.ListedProgram.{program_listing}
use Rattle.bpf_asm.specs.SourceLines.{source_lines}
use Rattle.cmd_list.proofs.listing.add_instructions.Goals as goal

pub loop-instr-preserved : goal.loop-instr-preserved
loop-instr-preserved c =
    let code = c.args.code.now in
    let listed = listed_lines code in
    let at = c.loop-instr.instr-index in
    let first = first_left listed (source_lines c.loop-instr.lines.now) at c.first_line.result.now c.loop-instr.invariant.left c.first_line.ensures in
    record {
      left = c.lines_after-lines.ensures ∙ drop_one at listed (source_lines c.loop-instr.lines.now) c.loop-instr.invariant.left;
      printed = printed_more listed code (c.args.answers.now.items ++ program_listing code) at _ c.loop-instr.answers.items c.add_instruction.new.answers.items c.first_line.result.now
          (omega arith) first c.in_ok-add_instruction.ensures c.loop-instr.invariant.printed;
    }

pub returns : goal.returns
returns c =
    printed_all (listed_lines c.args.code.now) c.args.code.now (c.args.answers.now.items ++ program_listing c.args.code.now) c.loop-instr.instr-index c.loop-instr.answers.items (omega arith) c.loop-instr.invariant.printed
