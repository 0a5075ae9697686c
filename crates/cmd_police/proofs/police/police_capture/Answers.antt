-- The text of `police` is that of the script's faults, or that of the capture.
use Rattle.std.proofs.Common.{◌≡◌, ◌∙◌, inl, inr, refl, ap, option_map, subst}
use Rattle.card_core.specs.Agreement.{CoreView}
use Rattle.card_core.specs.declared.shape.Shape.{Shape}
use Rattle.text_io.proofs.Public.{served-wider}
use Rattle.captures_text.specs.CaptureText.{IsCaptureText}
use Rattle.captures_text.specs.CellFilter.{filter_start}
use Rattle.upc_cell.specs.declared.side.Side.{Side}
use Rattle.cmd_setups.specs.SetUpScripts.{IsFaultAtTimes}
use Rattle.cmd_police.specs.PoliceText.{IsPoliceText, police_rules, police_start}
use Rattle.cmd_police.specs.StoredRules.{shown_stored}
use Rattle.cmd_setups.specs.SpanCounts.{spans_start, ticks_of_span}
use Rattle.cmd_setups.specs.SpansShown.{ShowsSpans}
use Rattle.cmd_setups.specs.declared.setting_up.SetUp.{SetUp}
use Rattle.cmd_setups.specs.TimedLines.{waiting_at}
use Rattle.cmd_setups.specs.SetUpCard.{IsTimedAs, LeadsScriptTo}
use Rattle.text_io.specs.Lines.{lines_of}
use Rattle.cmd_police.proofs.ServedLemmas.{faults_written, nothing_served}
use Rattle.cmd_police.proofs.EachCapture.{some_police_text}
use denote.Param.Send.{IsSend, sendable}
use Rattle.std.proofs.Crossing.{crosses}
use Rattle.cmd_police.specs.contracts.police.PoliceRun as PoliceRun
use Rattle.cmd_setups.proofs.spans.Spans.TheSendSync.{the_field_send as spans_send}
use Rattle.cmd_setups.proofs.timed_card.TimedCard.TheSendSync.{the_field_send as timed_sends}
use Rattle.cmd_police.proofs.RulesSend.{loaded_sends}
use Rattle.cmd_police.proofs.police.police_capture.Goals as goal

pub returns-in-Err : goal.returns-in-Err
returns-in-Err g c =
    let rules = shown_stored c.args.rules in
    nothing_served g.I.Input g.O.Output c.args.input.now c.args.output.now
    (IsPoliceText c.args.choice.scope c.args.tick.nanoseconds rules c.args.setup.now c.args.times.now)
    (some_police_text c.args.choice.scope c.args.tick.nanoseconds rules c.args.setup.now c.args.times.now (g.I.Input.rest c.args.input.now))

pub returns-in-Ok-Faulty : goal.returns-in-Ok-Faulty
returns-in-Ok-Faulty g c =
    let tick = c.args.tick.nanoseconds in
    let script = c.args.setup.now in
    let times = c.args.times.now in
    let faulty : IsFaultAtTimes script times c.in-Ok-Faulty.text.items =
    subst (λ (s : SetUp). LeadsScriptTo tick script times s) c.in-Ok-Faulty.field-0-is c.in-Ok-Faulty.ensures in
    let written = c.write_faults.ensures in
    faults_written g.I.Input g.O.Output c.args.input.now c.args.output.now c.write_faults.new.output c.write_faults.result
    (IsPoliceText c.args.choice.scope tick (shown_stored c.args.rules) script times) c.in-Ok-Faulty.text.items (λ octets. inl (faulty, refl))
    written.done written.given written.front written.fault written.writing

pub returns-in-Ok-Ready : goal.returns-in-Ok-Ready
returns-in-Ok-Ready g c =
    let tick = c.args.tick.nanoseconds in
    let script = c.args.setup.now in
    let times = c.args.times.now in
    let set : IsTimedAs tick script times c.in-Ok-Ready.timed =
    subst (λ (s : SetUp). LeadsScriptTo tick script times s) c.in-Ok-Ready.field-0-is c.in-Ok-Ready.ensures in
    let first = police_start c.args.choice.scope tick (shown_stored c.args.rules) set.card (waiting_at tick times (lines_of script)) in
    let side : c.shape.result.side ≡ set.card.world.shape.side =
    ap (λ (shape : Shape). shape.side) (c.shape.ensures ∙ ap (λ (core : CoreView). core.shape) c.core.ensures ∙ set.shown.held.agrees.shape) in
    let spans : ShowsSpans c.spans_of-spans.result first.spans =
    subst (λ (side : Side). ShowsSpans c.spans_of-spans.result (spans_start side (option_map (λ nanoseconds. ticks_of_span nanoseconds tick) c.args.choice.scope.every)))
    side c.spans_of-spans.ensures in
    served-wider (IsCaptureText police_rules (filter_start tick c.args.choice.scope.link c.args.choice.scope.timing) first)
    (IsPoliceText c.args.choice.scope tick (shown_stored c.args.rules) script times) (λ octets text done printed. inr (set.card, set.reached, printed))
    g.I.Input c.args.input.now c.follow_cells.new.input g.O.Output c.args.output.now c.follow_cells.new.output c.follow_cells.result
    (c.follow_cells.ensures first set.led (record { lines = refl; rules = refl; tick = refl; timed = set.shown; commanded = refl; has_heading = refl; spans = spans; not_judged = c.none.ensures }))

run_sends : IsSend PoliceRun.the_row
run_sends = search (sendable, crosses, loaded_sends, timed_sends, spans_send) depth 40

pub follow_cells-requires-send-F : goal.follow_cells-requires-send-F
follow_cells-requires-send-F g c κs within = search (sendable, run_sends)
