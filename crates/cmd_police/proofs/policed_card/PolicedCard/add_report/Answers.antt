use Rattle.std.proofs.Common.{◌++◌, ◌∙◌, List, ℕ, ap, subst, sym}
use Rattle.card_core.specs.Agreement.{CoreAgrees, CoreView}
use Rattle.captures_text.proofs.Public.{on_done}
use Rattle.text_io.specs.Words.{is_filled}
use Rattle.cmd_police.specs.PoliceText.{police_gap}
use Rattle.cmd_police.proofs.PolicedLemmas.{reports_by}
use Rattle.cmd_police.proofs.policed_card.PolicedCard.add_report.Goals as goal

pub returns : goal.returns
returns c = λ world shown.
    on_done c.add_closing.result _ _ c.add_closing.ensures
    (λ grew.
    let agrees : CoreAgrees c.core.result.now world.card.world = subst (λ (core : CoreView). CoreAgrees core world.card.world) (sym c.core.ensures) shown.timed.held.agrees in
    reports_by c.args.self.now world c.args.summary.now c.args.ending c.args.report.now.items c.add_text.new.answers.items c.add_gap.new.answers.items c.add_counts.new.answers.items
    c.add_not_judged.new.answers.items c.add_waiting.new.answers.items c.add_run_comments.new.answers.items c.add_closing.new.answers.items shown
    (c.in_ok-add_text.ensures ∙ ap (λ xs. c.args.report.now.items ++ xs) c.deref.ensures.value)
    (c.in_ok-add_gap.ensures ∙ ap (λ b. c.add_text.new.answers.items ++ police_gap b) (c.is_filled.ensures ∙ ap is_filled c.deref-2.ensures.value))
    (c.in_ok-add_counts.ensures world.card.world agrees shown.timed.at_setup)
    c.in_ok-add_not_judged.ensures c.in_ok-add_waiting.ensures c.in_ok-add_run_comments.ensures grew)
