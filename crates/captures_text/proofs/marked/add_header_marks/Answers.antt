use Rattle.std.proofs.Common.{◌++◌, ◌∙◌, ap, append_assoc, codes}
use Rattle.captures_text.specs.MarkedRecords.{mark_line}
use Rattle.captures_text.proofs.Progresses.{on_done}
use Rattle.captures_text.proofs.marked.add_header_marks.Goals as goal

pub returns : goal.returns
returns c =
    let first = mark_line c.args.tallies.losses (codes " with losses before them") in
    let last = mark_line c.args.tallies.truncated (codes " cut off by the card") in
    on_done c.add_mark-2.result _ _ c.add_mark-2.ensures
    (λ grew. grew ∙ ap (λ xs. xs ++ last) c.in_ok-add_mark.ensures ∙ append_assoc c.args.answers.now.items first last)
