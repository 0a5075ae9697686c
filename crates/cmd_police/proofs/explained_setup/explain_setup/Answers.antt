-- The output grew by the explanation that was made.
use Rattle.captures_text.proofs.Progresses.{if_given}
use Rattle.cmd_police.proofs.explained_setup.explain_setup.Goals as goal

pub returns-in-Ok-clause-explained : goal.returns-in-Ok-clause-explained
returns-in-Ok-clause-explained g c known =
    if_given c.give_last.result c.in-Ok.explanation.done _ _ c.give_last.ensures.done (c.give_last.ensures.given known)
    (λ gives. (c.in-Ok.explanation.text.items, gives, c.in-Ok.ensures))
