use Rattle.std.proofs.Common.{◌++◌, ◌∙◌, ap, append_assoc, codes}
use Rattle.captures_text.specs.MarkedRecords.{mark_line}
use Rattle.captures_text.proofs.Progresses.{on_done}
use Rattle.captures_text.proofs.marked.add_channel_marks.Goals as goal

pub returns : goal.returns
returns c =
    let first = mark_line c.args.tallies.lost_octet (codes " with a lost octet") in
    let second = mark_line c.args.tallies.header_corrected (codes " with a corrected header") in
    let last = mark_line c.args.tallies.crc_error (codes " with a wrong CRC-10") in
    on_done c.add_mark-3.result _ _ c.add_mark-3.ensures
    (λ grew. grew
    ∙ ap (λ xs. xs ++ last)
    (c.in_ok-add_mark-2.ensures ∙ ap (λ xs. xs ++ second) c.in_ok-add_mark.ensures ∙ append_assoc c.args.answers.now.items first second)
    ∙ append_assoc c.args.answers.now.items (first ++ second) last)
