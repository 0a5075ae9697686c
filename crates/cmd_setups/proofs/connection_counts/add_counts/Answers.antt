use Rattle.std.proofs.Common.{◌∙◌, ◌++◌, ap, append_assoc}
use Rattle.captures_text.proofs.Public.{on_done}
use Rattle.cmd_setups.specs.ConnectionCounts.{counts_heading, counts_lines}
use Rattle.cmd_setups.proofs.connection_counts.add_counts.Goals as goal

pub returns : goal.returns
returns c = λ world agrees are.
    on_done c.add_all_counts.result _ _ (c.add_all_counts.ensures world agrees are)
    (λ grew. grew ∙ ap (λ xs. xs ++ counts_lines world) c.in_ok-add_counts_heading.ensures
    ∙ append_assoc c.args.answers.now.items counts_heading (counts_lines world))
