-- The parts of the comment, one after another.
use Rattle.std.proofs.Common.{◌∙◌, ◌++◌, ap, append_assoc, codes, decimal}
use Rattle.captures_text.proofs.Public.{on_done}
use Rattle.cmd_setups.specs.CommandsUnderTraffic.{first_moment}
use Rattle.cmd_setups.proofs.stored_commands.add_count.Goals as goal

pub returns : goal.returns
returns c =
    let old = c.args.answers.now.items in
    let begin = codes "# not carried out: " in
    let count = decimal c.args.count in
    let rest = first_moment c.args.moment in
    on_done c.add_first_moment.result _ _ c.add_first_moment.ensures
    (λ grew. grew ∙ ap (λ xs. xs ++ rest) (c.in_ok-add_number.ensures ∙ ap (λ xs. xs ++ count) c.in_ok-add_text.ensures)
    ∙ append_assoc (old ++ begin) count rest ∙ append_assoc old begin (count ++ rest))
