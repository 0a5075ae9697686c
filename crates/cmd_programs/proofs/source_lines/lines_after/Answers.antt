-- One line more.
use Rattle.std.proofs.Common.{ℕ, List, drop, ap, ◌∙◌}
use Rattle.std.proofs.lemmas.List.{drop-drop}
use Rattle.bpf_asm.specs.SourceLines.{source_lines}
use Rattle.cmd_programs.proofs.source_lines.lines_after.Goals as goal

pub loop-preserved : goal.loop-preserved
loop-preserved c =
    c.after_line-left.ensures ∙ ap (λ (lines : List (List ℕ)). drop 1 lines) c.loop.invariant ∙ drop-drop 1 c.loop.counter (source_lines c.args.text.now)
