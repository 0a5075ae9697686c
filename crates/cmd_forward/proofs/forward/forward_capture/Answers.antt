-- The report is that of the script's faults, or what is forwarded is that of the capture.
use Rattle.std.proofs.Common.{List, ℕ, inl, inr, refl, subst, sym}
use Rattle.cmd_police.specs.PolicedCards.{IsOpenedBy, OpensPolicedCard, policed_start}
use Rattle.cmd_police.specs.declared.policed_card.OpenedCard.{OpenedCard}
use Rattle.cmd_setups.specs.SetUpScripts.{IsFaultAtTimes}
use Rattle.cmd_setups.specs.TimedLines.{waiting_at}
use Rattle.text_io.specs.Lines.{lines_of}
use Rattle.text_io.specs.declared.ending.Done.TheVariants.{Ended}
use Rattle.text_io.specs.declared.ending.RunFault.TheVariants.{NoMemory}
use Rattle.cmd_forward.specs.ForwardText.{IsForwarded, forward_rules}
use Rattle.cmd_forward.specs.Forwarding.{ForwardsCapture, forward_start}
use Rattle.cmd_forward.proofs.ForwardTexts.{faults_served, served_wider, some_forwarded}
use Rattle.cmd_forward.proofs.WholeForwarding.{served_nothing}
use Rattle.cmd_forward.proofs.forward.forward_capture.Goals as goal

pub returns-in-Err : goal.returns-in-Err
returns-in-Err g c =
    let script = c.args.script.now in
    let times = c.args.times.now in
    let tick = c.args.tick.nanoseconds in
    let said = c.args.report.now.items in
    served_nothing g.I.Input g.O.Output c.args.input.now c.args.input.now c.args.output.now said said (IsForwarded c.args.others tick c.args.link script times) NoMemory
    (some_forwarded c.args.others tick c.args.link script times (g.I.Input.rest c.args.input.now)) refl refl

pub returns-in-Ok-Faulty : goal.returns-in-Ok-Faulty
returns-in-Ok-Faulty g c =
    let script = c.args.script.now in
    let times = c.args.times.now in
    let tick = c.args.tick.nanoseconds in
    let explained : IsFaultAtTimes script times c.in-Ok-Faulty.text.items =
    subst (λ (o : OpenedCard). OpensPolicedCard tick script times o) c.in-Ok-Faulty.field-0-is c.in-Ok-Faulty.ensures in
    let text = c.deref.result.now in
    let told : IsFaultAtTimes script times text = subst (λ (xs : List ℕ). IsFaultAtTimes script times xs) (sym c.deref.ensures.value) explained in
    faults_served g.I.Input g.O.Output c.args.input.now c.args.output.now c.args.report.now.items c.report_faults.new.report.items text c.report_faults.result
    (IsForwarded c.args.others tick c.args.link script times) (λ octets. some_forwarded c.args.others tick c.args.link script times octets) (λ octets. inl (refl, told, refl))
    c.report_faults.ensures.done c.report_faults.ensures.grew c.report_faults.ensures.fault

pub returns-in-Ok-Ready : goal.returns-in-Ok-Ready
returns-in-Ok-Ready g c =
    let script = c.args.script.now in
    let times = c.args.times.now in
    let tick = c.args.tick.nanoseconds in
    let opened : IsOpenedBy tick script times c.in-Ok-Ready.policed = subst (λ (o : OpenedCard). OpensPolicedCard tick script times o) c.in-Ok-Ready.field-0-is c.in-Ok-Ready.ensures in
    let first = policed_start tick opened.card (waiting_at tick times (lines_of script)) in
    served_wider g.I.Input g.O.Output c.args.input.now c.forward_cells.new.input c.args.output.now c.forward_cells.new.output c.args.report.now.items
    c.forward_cells.new.report.items c.forward_cells.result
    (ForwardsCapture forward_rules c.args.others (forward_start tick c.args.link first)) (IsForwarded c.args.others tick c.args.link script times)
    (λ octets text report done forwards. inr (opened.card, opened.reached, forwards)) (c.forward_cells.ensures first opened.led opened.shown)
