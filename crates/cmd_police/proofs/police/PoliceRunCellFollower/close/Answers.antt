use Rattle.std.proofs.Common.{◌++◌, ◌∙◌, ap, subst, sym}
use Rattle.captures_text.proofs.Public.{on_done}
use Rattle.card_core.specs.Agreement.{CoreAgrees, CoreView}
use Rattle.cmd_police.specs.PoliceText.{police_gap}
use Rattle.cmd_police.proofs.PoliceLemmas.{closes_by}
use Rattle.cmd_police.proofs.police.PoliceRunCellFollower.close.Goals as goal

pub returns : goal.returns
returns c =
    on_done c.add_closing.result _ _ c.add_closing.ensures
    (λ grew world led shown.
    let agrees : CoreAgrees c.core.result.now world.card.world = subst (λ (core : CoreView). CoreAgrees core world.card.world) (sym c.core.ensures) shown.timed.held.agrees in
    closes_by c.args.self.now world c.args.summary.now c.args.end c.args.answers.now.items c.add_present.new.answers.items c.add_gap.new.answers.items
    c.add_counts.new.answers.items c.add_not_judged.new.answers.items c.add_waiting.new.answers.items c.add_run_comments.new.answers.items c.add_closing.new.answers.items shown
    c.in_ok-add_present.ensures
    (c.in_ok-add_gap.ensures ∙ ap (λ b. c.add_present.new.answers.items ++ police_gap b) c.has_lines_before.ensures) (c.in_ok-add_counts.ensures world.card.world agrees shown.timed.at_setup)
    c.in_ok-add_not_judged.ensures c.in_ok-add_waiting.ensures c.in_ok-add_run_comments.ensures grew)
