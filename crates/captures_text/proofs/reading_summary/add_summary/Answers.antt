use Rattle.std.proofs.Common.{◌++◌, ◌∙◌, ap, append_assoc}
use Rattle.captures_text.specs.MarkedRecords.{mark_lines}
use Rattle.captures_text.specs.SkippedBlocks.{block_lines}
use Rattle.captures_text.specs.ReadingSummaries.{reason_lines}
use Rattle.captures_text.proofs.Progresses.{on_done}
use Rattle.captures_text.proofs.reading_summary.add_summary.Goals as goal

pub returns : goal.returns
returns c =
    let first = reason_lines c.args.summary.now in
    let second = block_lines c.args.summary.now.blocks in
    let last = mark_lines c.args.summary.now.marks in
    on_done c.add_marks.result _ _ c.add_marks.ensures
    (λ grew. grew
    ∙ ap (λ xs. xs ++ last)
    (c.in_ok-add_blocks.ensures ∙ ap (λ xs. xs ++ second) c.in_ok-add_reasons.ensures ∙ append_assoc c.args.answers.now.items first second)
    ∙ append_assoc c.args.answers.now.items (first ++ second) last)
