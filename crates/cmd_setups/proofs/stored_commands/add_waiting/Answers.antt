-- The comment is about the first command that is left.
use Rattle.std.proofs.Common.{◌∙◌, ◌++◌, ap, sym}
use Rattle.captures_text.proofs.Public.{on_done}
use Rattle.cmd_setups.specs.CommandsUnderTraffic.{waiting_comment, waiting_text}
use Rattle.cmd_setups.proofs.CommandLemmas.{waiting_shown}
use Rattle.cmd_setups.proofs.stored_commands.add_waiting.Goals as goal

pub returns-in-Some : goal.returns-in-Some
returns-in-Some c =
    on_done c.add_count.result _ _ c.add_count.ensures
    (λ grew. grew ∙ ap (λ n. c.args.answers.now.items ++ waiting_text n c.in-Some.first.now.moment) c.left.ensures
    ∙ ap (λ xs. c.args.answers.now.items ++ xs) (sym (waiting_shown c.args.commands.now c.in-Some.first.now c.in-Some.ensures.found.left)))
