use Rattle.std.proofs.Common.{codes, decimal}
use Rattle.captures_text.proofs.Progresses.{on_done}
use Rattle.cmd_fit.proofs.LinkLineLemmas.{three_grow}
use Rattle.cmd_fit.proofs.link_lines.add_left_out_count.Goals as goal

pub returns : goal.returns
returns c =
    on_done c.add_text-2.result _ _ c.add_text-2.ensures
    (λ grew. three_grow c.args.answers.now.items (codes "# ") (decimal c.args.tally.count) (codes " of links after the first 4096")
    c.add_text.new.answers.items c.add_number.new.answers.items c.add_text-2.new.answers.items
    c.in_ok-add_text.ensures c.in_ok-add_number.ensures grew)
