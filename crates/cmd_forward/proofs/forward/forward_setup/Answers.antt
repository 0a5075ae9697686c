-- The same with files of rules.
use Rattle.std.proofs.Common.{List, ℕ, [], inr, refl, subst, sym}
use Rattle.cmd_police.specs.PolicedCards.{OpensSetup, policed_start}
use Rattle.cmd_setups.specs.SharedTexts.{octets_of_texts}
use Rattle.cmd_setups.specs.TimedLines.{line_times, waiting_at}
use Rattle.text_io.specs.Lines.{lines_of}
use Rattle.cmd_police.specs.declared.policed_card.OpenedCard.{OpenedCard}
use Rattle.cmd_police.specs.declared.policed_card.OpenedCard.TheVariants.{Faulty, Ready}
use Rattle.text_io.specs.declared.ending.Done.TheVariants.{Ended}
use Rattle.text_io.specs.declared.ending.RunFault.TheVariants.{NoMemory}
use Rattle.cmd_forward.specs.ForwardText.{IsSetupForwarded, MayBeSetupForwarded, forward_rules}
use Rattle.cmd_forward.specs.Forwarding.{ForwardsCapture, forward_start}
use Rattle.cmd_forward.proofs.ForwardTexts.{faults_reported, faults_served, faulty_setup, may_be_forwarded, served_wider, some_setup_forwarded}
use Rattle.cmd_forward.proofs.WholeForwarding.{served_nothing}
use Rattle.cmd_forward.proofs.forward.forward_setup.Goals as goal

pub returns-in-Err-clause-served : goal.returns-in-Err-clause-served
returns-in-Err-clause-served g c =
    let setup = c.args.setup.now in
    let texts = octets_of_texts c.args.texts.now in
    let tick = c.args.tick.nanoseconds in
    let said = c.args.report.now.items in
    (served_nothing g.I.Input g.O.Output c.args.input.now c.args.input.now c.args.output.now said said (MayBeSetupForwarded c.args.others tick c.args.link setup texts) NoMemory
    (some_setup_forwarded c.args.others tick c.args.link setup texts (g.I.Input.rest c.args.input.now)) refl refl).served

pub returns-in-Ok-Faulty-clause-served : goal.returns-in-Ok-Faulty-clause-served
returns-in-Ok-Faulty-clause-served g c =
    let setup = c.args.setup.now in
    let texts = octets_of_texts c.args.texts.now in
    let tick = c.args.tick.nanoseconds in
    let faulty : OpensSetup tick setup texts (Faulty c.in-Ok-Faulty.text) = subst (λ (o : OpenedCard). OpensSetup tick setup texts o) c.in-Ok-Faulty.field-0-is c.in-Ok-Faulty.ensures in
    let text = c.deref.result.now in
    let IsText = MayBeSetupForwarded c.args.others tick c.args.link setup texts in
    (faults_served g.I.Input g.O.Output c.args.input.now c.args.output.now c.args.report.now.items c.report_faults.new.report.items text c.report_faults.result
    IsText (λ octets. some_setup_forwarded c.args.others tick c.args.link setup texts octets)
    (λ octets. subst (λ (xs : List ℕ). IsText octets [] xs Ended) (sym c.deref.ensures.value)
    (may_be_forwarded c.args.others tick c.args.link setup texts octets [] c.in-Ok-Faulty.text.items Ended
    (faulty_setup c.args.others tick c.args.link setup texts c.in-Ok-Faulty.text faulty octets)))
    c.report_faults.ensures.done c.report_faults.ensures.grew c.report_faults.ensures.fault).served

pub returns-in-Ok-Faulty-clause-reported : goal.returns-in-Ok-Faulty-clause-reported
returns-in-Ok-Faulty-clause-reported g c =
    let setup = c.args.setup.now in
    let texts = octets_of_texts c.args.texts.now in
    let tick = c.args.tick.nanoseconds in
    let faulty : OpensSetup tick setup texts (Faulty c.in-Ok-Faulty.text) = subst (λ (o : OpenedCard). OpensSetup tick setup texts o) c.in-Ok-Faulty.field-0-is c.in-Ok-Faulty.ensures in
    let IsText = IsSetupForwarded c.args.others tick c.args.link setup texts in
    faults_reported g.I.Input g.O.Output c.args.input.now c.args.output.now c.args.report.now.items c.report_faults.new.report.items c.deref.result.now
    c.report_faults.result IsText
    (λ octets. subst (λ (xs : List ℕ). IsText octets [] xs Ended) (sym c.deref.ensures.value)
    (faulty_setup c.args.others tick c.args.link setup texts c.in-Ok-Faulty.text faulty octets))
    c.report_faults.ensures.done c.report_faults.ensures.grew

pub returns-in-Ok-Ready-clause-served : goal.returns-in-Ok-Ready-clause-served
returns-in-Ok-Ready-clause-served g c =
    let setup = c.args.setup.now in
    let texts = octets_of_texts c.args.texts.now in
    let tick = c.args.tick.nanoseconds in
    let opens : OpensSetup tick setup texts (Ready c.in-Ok-Ready.policed) = subst (λ (o : OpenedCard). OpensSetup tick setup texts o) c.in-Ok-Ready.field-0-is c.in-Ok-Ready.ensures in
    let times = line_times setup in
    let opened = opens.2 in
    let first = policed_start tick opened.card (waiting_at tick times (lines_of opens.0)) in
    (served_wider g.I.Input g.O.Output c.args.input.now c.forward_cells.new.input c.args.output.now c.forward_cells.new.output c.args.report.now.items
    c.forward_cells.new.report.items c.forward_cells.result
    (ForwardsCapture forward_rules c.args.others (forward_start tick c.args.link first)) (MayBeSetupForwarded c.args.others tick c.args.link setup texts)
    (λ octets text report done forwards. inr (opens.0, opens.1, inr (opened.card, opened.reached, forwards)))
    (c.forward_cells.ensures first opened.led opened.shown)).served

pub returns-in-Ok-Ready-clause-reported : goal.returns-in-Ok-Ready-clause-reported
returns-in-Ok-Ready-clause-reported g c =
    let setup = c.args.setup.now in
    let texts = octets_of_texts c.args.texts.now in
    let tick = c.args.tick.nanoseconds in
    let opens : OpensSetup tick setup texts (Ready c.in-Ok-Ready.policed) = subst (λ (o : OpenedCard). OpensSetup tick setup texts o) c.in-Ok-Ready.field-0-is c.in-Ok-Ready.ensures in
    let times = line_times setup in
    let opened = opens.2 in
    let first = policed_start tick opened.card (waiting_at tick times (lines_of opens.0)) in
    (served_wider g.I.Input g.O.Output c.args.input.now c.forward_cells.new.input c.args.output.now c.forward_cells.new.output c.args.report.now.items
    c.forward_cells.new.report.items c.forward_cells.result
    (ForwardsCapture forward_rules c.args.others (forward_start tick c.args.link first)) (IsSetupForwarded c.args.others tick c.args.link setup texts)
    (λ octets text report done forwards. inr (opens.0, opens.1, inr (opened.card, opened.reached, forwards)))
    (c.forward_cells.ensures first opened.led opened.shown)).reported
