use Rattle.std.specs.Prelude.{flat_map}
use Rattle.captures_text.specs.RunLines.{closing_lines}
use Rattle.captures_text.proofs.Progresses.{on_done}
use Rattle.cmd_fit.specs.LinksText.{left_out_line, link_line, links_heading}
use Rattle.cmd_fit.proofs.LinkLineLemmas.{four_grow}
use Rattle.cmd_fit.proofs.link_lines.add_links.Goals as goal

pub returns : goal.returns
returns c =
    let table = c.args.table.now in
    let one = c.add_text.new.answers.items in
    on_done c.add_closing.result _ _ c.add_closing.ensures
    (λ grew. four_grow c.args.answers.now.items links_heading (flat_map link_line table.rows.entries) (left_out_line table.left_out)
    (closing_lines table.summary c.args.ending)
    one c.add_link_lines.new.answers.items c.add_left_out.new.answers.items c.add_closing.new.answers.items
    c.in_ok-add_text.ensures c.in_ok-add_link_lines.ensures
    c.in_ok-add_left_out.ensures grew)
