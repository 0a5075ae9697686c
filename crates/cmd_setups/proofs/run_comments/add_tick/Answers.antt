-- The texts, one after another.
use Rattle.std.proofs.Common.{◌≡◌, ◌∙◌, ◌++◌, ap, append_assoc}
use Rattle.std.specs.Prelude.{codes, decimal}
use Rattle.captures_text.proofs.Public.{on_done}
use Rattle.cmd_setups.proofs.run_comments.add_tick.Goals as goal

pub returns : goal.returns
returns c =
    let old = c.args.answers.now.items in
    let number = decimal c.args.nanoseconds in
    on_done c.add_text-2.result _ _ c.add_text-2.ensures
    (λ grew. grew
    ∙ ap (λ xs. xs ++ codes " ns\n") (c.in_ok-add_number.ensures ∙ ap (λ xs. xs ++ number) c.in_ok-add_text.ensures)
    ∙ append_assoc (old ++ codes "# a tick is ") number (codes " ns\n")
    ∙ append_assoc old (codes "# a tick is ") (number ++ codes " ns\n"))
