-- A command ends a journal, or doesn't.
use Rattle.std.proofs.Common.{◌∙◌, List, ℕ, Some, None, ap, sym}
use Rattle.card_core.specs.Agreement.{CoreView}
use Rattle.card_core.specs.declared.shape.Shape.{Shape}
use Rattle.captures_text.proofs.Public.{on_done}
use Rattle.cmd_setups.proofs.CommandLemmas.{ended_moves, plain_moves}
use Rattle.cmd_setups.proofs.timed_card.answer_command.Goals as goal

pub returns-in-Some : goal.returns-in-Some
returns-in-Some c =
    on_done c.answer_with_counts.result _ _ c.answer_with_counts.ensures
    (λ moves. ended_moves c.shape.result.side c.args.line.now c.in-Some.word.now c.in-Some.vc c.args.card.now c.answer_with_counts.new.card c.args.at_setup.now.counts.items c.answer_with_counts.new.at_setup.counts.items
    c.args.answers.now.items c.answer_with_counts.new.answers.items
    (ap (λ (shape : Shape). shape.side) (sym (c.shape.ensures ∙ ap (λ (core : CoreView). core.shape) c.core.ensures))) c.in-Some.ensures moves)

pub returns-in-None : goal.returns-in-None
returns-in-None c =
    on_done c.answer_other.result _ _ c.answer_other.ensures
    (λ moves. plain_moves c.shape.result.side c.args.line.now c.args.card.now c.answer_other.new.card c.args.at_setup.now.counts.items c.answer_other.new.at_setup.counts.items
    c.args.answers.now.items c.answer_other.new.answers.items
    (ap (λ (shape : Shape). shape.side) (sym (c.shape.ensures ∙ ap (λ (core : CoreView). core.shape) c.core.ensures))) c.in-None.ensures moves)
