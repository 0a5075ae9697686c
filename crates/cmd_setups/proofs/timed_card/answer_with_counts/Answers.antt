-- The answer has the counts before the command.
use Rattle.std.proofs.Common.{List, ℕ, ◌++◌, ◌∙◌, ap, subst, sym}
use Rattle.card_core.specs.Agreement.{CoreView}
use Rattle.card_core.specs.declared.shape.Shape.{Shape}
use Rattle.captures_text.proofs.Public.{on_done}
use Rattle.cmd_run.specs.ShownCard.{AnswersLine}
use Rattle.cmd_setups.specs.inner.CountsSince.{AreOwnCounts}
use Rattle.cmd_setups.specs.inner.CommandsShown.{answer_of_counts}
use Rattle.cmd_setups.specs.inner.NotedSetups.{MovesNoting}
use Rattle.cmd_setups.proofs.CommandLemmas.{counted_moves}
use Rattle.cmd_setups.proofs.timed_card.answer_with_counts.Goals as goal

pub returns : goal.returns
returns c =
    let at_setup = c.args.at_setup.now.counts.items in
    on_done c.add_counted.result _ _ c.add_counted.ensures
    (λ grew. counted_moves c.shape-side.result.side c.args.line.now c.args.word.now c.args.vc c.own_counts-counts.result c.args.card.now c.answer_and_record.new.card
    at_setup c.answer_and_record.new.at_setup.counts.items c.answer_and_record.new.answers.items
    c.args.answers.now.items c.add_counted.new.answers.items
    (ap (λ (core : CoreView). core.shape.side) (sym c.core-2.ensures) ∙ ap (λ (shape : Shape). shape.side) (sym c.shape-side.ensures))
    (subst (λ (core : CoreView). AreOwnCounts core at_setup c.args.vc c.own_counts-counts.result) c.core.ensures c.own_counts-counts.ensures)
    (subst (λ (xs : List ℕ). MovesNoting (AnswersLine c.args.line.now) c.args.card.now at_setup c.answer_and_record.new.card c.answer_and_record.new.at_setup.counts.items
    xs c.answer_and_record.new.answers.items) c.new-given.ensures.items c.in_ok-answer_and_record.ensures)
    (grew ∙ ap (λ xs. c.args.answers.now.items ++ answer_of_counts c.shape-side.result.side c.args.word.now c.args.vc c.own_counts-counts.result xs) c.deref.ensures.value))
