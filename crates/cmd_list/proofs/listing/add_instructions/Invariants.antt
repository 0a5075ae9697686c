-- Loop invariant: the lines of the instructions so far were added.
use Rattle.std.proofs.Common.{◌≡◌, ◌++◌, drop}
use Rattle.bpf_asm.specs.SourceLines.{source_lines}
use Rattle.cmd_list.specs.Comments.{listed_lines}
use Rattle.cmd_list.specs.ListedProgram.{octet_lines, program_listing}
use Rattle.cmd_list.proofs.listing.add_instructions.Given as goal

abbrev pub invariant-loop-instr : goal.invariant-loop-instr
invariant-loop-instr l =
    record {
      left : source_lines l.lines ≡ drop l.instr-index (listed_lines l.code);
      printed : l.answers.items ++ octet_lines (listed_lines l.code) l.instr-index (drop l.instr-index l.code) ≡ l.fn.answers.items ++ program_listing l.code;
    }
