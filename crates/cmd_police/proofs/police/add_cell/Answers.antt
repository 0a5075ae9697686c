use Rattle.std.proofs.Common.{◌≡◌, ◌∙◌, ◌++◌, true, ap, sym, subst}
use Rattle.card_core.specs.Agreement.{CoreAgrees, CoreView}
use Rattle.card_core.specs.Sections.{answer_to}
use Rattle.card_core.specs.World.{World}
use Rattle.upc_cell.specs.Header.{has_low_priority}
use Rattle.upc_cell.specs.declared.vc.Vc.{Vc}
use Rattle.cmd_police.specs.PoliceLines.{cell_columns, excess_of_answer}
use Rattle.cmd_police.specs.StoredRules.{shown_stored}
use Rattle.cmd_setups.specs.inner.ExcessLeft.{LeavesConnection}
use Rattle.cmd_police.specs.inner.PoliceShown.{AddsCell}
use Rattle.cmd_police.proofs.LineTexts.{adds_line}
use Rattle.cmd_police.proofs.police.add_cell.Goals as goal

pub returns : goal.returns
returns c =
    let captured = c.args.captured.now in
    let given = answer_to captured.cell c.args.decision.now in
    let vc = c.vc_at-vc.result in
    let clp : c.clp-clp.result ≡ has_low_priority captured.cell = c.clp-clp.ensures.test in
    let excess = c.excess_of-excess.result in
    subst (λ (named : Vc). AddsCell c.args.side c.args.lines (shown_stored c.args.rules.now) c.args.has_heading captured named given c.args.card.now
    c.args.answers.now.items c.end_line.new.answers.items true) c.vc_at-vc.ensures.connection
    (adds_line c.args.side c.args.lines (shown_stored c.args.rules.now) c.args.has_heading captured vc given c.args.card.now excess
    c.args.answers.now.items c.add_heading_once.new.answers.items c.add_cell_columns.new.answers.items c.end_line.new.answers.items
    (sym (c.has_line.ensures captured.cell) ∙ c.if-not-has_line.false)
    c.in_ok-add_heading_once.ensures
    (c.in_ok-add_cell_columns.ensures captured.cell
    ∙ ap (λ b. c.add_heading_once.new.answers.items ++ cell_columns c.args.side captured.number captured.moment vc b given excess) clp)
    c.in_ok-end_line.ensures
    (λ before after agrees leaves.
    let near : CoreAgrees c.core.result.now after = subst (λ (core : CoreView). CoreAgrees core after) (sym c.core.ensures) agrees in
    let leaves_so : LeavesConnection before.connections after.connections vc c.clp-clp.result given =
    subst (λ b. LeavesConnection before.connections after.connections vc b given) (sym clp) leaves in
    c.excess_of-excess.ensures before after captured.cell near leaves_so ∙ ap (λ b. excess_of_answer before vc b given) clp))
