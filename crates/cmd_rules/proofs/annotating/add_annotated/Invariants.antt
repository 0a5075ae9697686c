use Rattle.std.proofs.Common.{◌≡◌, ◌≤◌, ◌+◌, ◌-◌, ◌++◌, length}
use Rattle.bpf_asm.specs.SourceLines.{source_lines}
use Rattle.text_io.specs.Lines.{lines_of}
use Rattle.cmd_rules.specs.AsmText.{asm_text, comments_from, lines_with}
use Rattle.cmd_rules.proofs.annotating.add_annotated.Given as goal

abbrev pub invariant-loop-line : goal.invariant-loop-line
invariant-loop-line l = record {
  counted : l.place + length l.rest ≤ length l.listing;
  rest : l.answers.items ++ lines_with (λ place. comments_from (source_lines l.text) l.made.begins.items (length l.made.placed.code.items - place) 0 l.made.placed.starts_from_end.items) l.place (lines_of l.rest)
      ≡ l.fn.answers.items ++ asm_text (source_lines l.text) l.made;
}

abbrev pub decreases-loop-line : goal.decreases-loop-line
decreases-loop-line l = length l.rest
