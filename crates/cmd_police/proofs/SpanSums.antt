-- The counts of spans add up to those of the lines.
use Rattle.std.proofs.Common.{◌≡◌, ℕ, ◌+◌, ◌||◌, Bool, true, false, if◌then◌else◌, is_some, List, [], ◌∷◌, Option, Some, None, option_map, refl, sym, ap, ◌∙◌, subst, arith}
use Rattle.std.proofs.lemmas.Option.{same_Some}
use Rattle.card_core.specs.World.{Connection, connection_in}
use Rattle.card_core.specs.declared.answer.Answer.{Answer}
use Rattle.card_core.specs.declared.answer.Answer.TheVariants as answer
use Rattle.captures_text.specs.CaptureText.{RunsThrough}
use Rattle.captures_text.specs.declared.captured_cell.CapturedCell.{CapturedCell}
use Rattle.leaky.specs.declared.verdict.Verdict.{Verdict}
use Rattle.line_record.specs.Tally.{count_of, counted, tally_of}
use Rattle.upc_cell.specs.Connection.{is_same_vc}
use Rattle.upc_cell.specs.declared.vc.Vc.{Vc}
use Rattle.cmd_run.specs.RunText.{Card, IsLed}
use Rattle.cmd_setups.specs.Columns.{verdict_given}
use Rattle.cmd_setups.specs.CommandsUnderTraffic.{CarriesOutWaiting}
use Rattle.cmd_police.specs.PoliceText.{CarriesOutDue, PoliceWorld, PolicesArrived, after_cell, police_rules, police_start}
use Rattle.cmd_setups.specs.CellsTaken.{connection_of_cell}
use Rattle.cmd_setups.specs.TimedLines.{WaitingCommand}
use Rattle.text_io.specs.Words.{is_filled}
use Rattle.cmd_setups.specs.SpanCounts.{JudgedCell, SpansWorld, span_begin, ends_span, judged_after, next_span, spans_after, spans_at, ticks_of_span}
use Rattle.cmd_police.specs.SpanLaws.{SpansAddUp, all_spans, count_in_spans, verdicts_of}
use Rattle.cmd_police.specs.inner.PoliceTotal.{room_led}
use Rattle.cmd_setups.proofs.CountGains.{count_nothing, count_more, added, added_none, own_count, room_gains}

no_cells : (vc : Vc) (verdict : Verdict) → count_of (tally_of (verdicts_of vc [])) verdict ≡ 0
no_cells vc verdict = count_nothing verdict

at_moment : (spans : SpansWorld) (moment : ℕ) (vc : Vc) (verdict : Verdict)
    → count_in_spans vc verdict (all_spans (spans_at spans moment)) ≡ count_in_spans vc verdict (all_spans spans)
at_moment spans moment vc verdict = by (ends_span spans moment)
  where
    by : (b : Bool) → count_in_spans vc verdict (all_spans (if b then next_span spans (span_begin spans.ticks moment) else spans))
        ≡ count_in_spans vc verdict (all_spans spans)
    by true = let none = no_cells vc verdict in omega (arith, none)
    by false = refl

ticks_at : (spans : SpansWorld) (moment : ℕ) → (spans_at spans moment).ticks ≡ spans.ticks
ticks_at spans moment = by (ends_span spans moment)
  where
    by : (b : Bool) → (if b then next_span spans (span_begin spans.ticks moment) else spans).ticks ≡ spans.ticks
    by true = refl
    by false = refl

one_more : (cells : List JudgedCell) (vc here : Vc) (given : Option Verdict) (verdict : Verdict)
    → count_of (tally_of (verdicts_of vc (judged_after cells here given))) verdict
    ≡ count_of (tally_of (verdicts_of vc cells)) verdict + added (is_same_vc vc here) given verdict
one_more cells vc here None verdict = let none = added_none (is_same_vc vc here) verdict in omega (arith, none)
one_more cells vc here (Some given) verdict = by (is_same_vc vc here)
  where
    by : (b : Bool) → count_of (tally_of (if b then given ∷ verdicts_of vc cells else verdicts_of vc cells)) verdict
        ≡ count_of (tally_of (verdicts_of vc cells)) verdict + added b (Some given) verdict
    by true = count_more (tally_of (verdicts_of vc cells)) given verdict
    by false = sym (omega arith)

after_one : (spans : SpansWorld) (ticks : ℕ) (here : Vc) (given : Answer) (vc : Vc) (verdict : Verdict) → spans.ticks ≡ Some ticks
    → count_in_spans vc verdict (all_spans (spans_after spans here given))
    ≡ count_in_spans vc verdict (all_spans spans) + added (is_same_vc vc here) (verdict_given given) verdict
after_one spans ticks here given vc verdict wanted =
    let more = one_more spans.present.cells vc here (verdict_given given) verdict in
    let same : count_in_spans vc verdict (all_spans (spans_after spans here given))
    ≡ count_of (tally_of (verdicts_of vc (judged_after spans.present.cells here (verdict_given given)))) verdict + count_in_spans vc verdict spans.ended =
    ap (λ (t : Option ℕ). count_of (tally_of (verdicts_of vc (if is_some t then judged_after spans.present.cells here (verdict_given given) else spans.present.cells))) verdict
    + count_in_spans vc verdict spans.ended) wanted in
    omega (arith, more, same)

-- ---- a run

-- A connection after the run was there before it, and counts as many more cells as all spans do.
pub record Adds (first last : PoliceWorld) (vc : Vc) (next : Connection) : Type 0 where
  pub connection : Connection
  pub found : connection_in first.card.world.connections vc ≡ Some connection
  pub counts : (verdict : Verdict) → own_count next verdict + count_in_spans vc verdict (all_spans first.spans)
      ≡ own_count connection verdict + count_in_spans vc verdict (all_spans last.spans)

or_false : (b : Bool) → (b || false) ≡ b
or_false true = refl
or_false false = refl

-- Without commands that wait, a state stays as it is.
same_state : (before ready : PoliceWorld) (moment : ℕ) (text : List ℕ) → before.waiting ≡ [] → CarriesOutDue before moment text ready → ready ≡ before
same_state before ready moment text none due =
    let carried : CarriesOutWaiting [] moment before.card text due.card due.left =
    subst (λ (waiting : List WaitingCommand). CarriesOutWaiting waiting moment before.card text due.card due.left) none due.carried in
    let left : due.left ≡ before.waiting = carried.all ∙ sym none in
    let Made : Card → List WaitingCommand → Bool → PoliceWorld = λ card waiting commanded.
    record before { card = card; waiting = waiting; commanded = before.commanded || commanded } in
    due.is ∙ ap (λ (card : Card). Made card due.left (is_filled text)) carried.same ∙ ap (λ (waiting : List WaitingCommand). Made before.card waiting (is_filled text)) left
    ∙ ap (λ xs. Made before.card before.waiting (is_filled xs)) carried.none ∙ ap (λ (b : Bool). record before { commanded = b }) (or_false before.commanded)

run_adds : (first last : PoliceWorld) (cells : List CapturedCell) (ticks : ℕ) → RunsThrough police_rules first cells last → first.spans.ticks ≡ Some ticks
    → first.waiting ≡ [] → IsLed first.card → (vc : Vc) (next : Connection) → connection_in last.card.world.connections vc ≡ Some next → Adds first last vc next
run_adds first last [] ticks leads wanted none led vc next found =
    subst (λ (w : PoliceWorld). Adds first w vc next) (sym leads) (record {
      connection = next;
      found = subst (λ (w : PoliceWorld). connection_in w.card.world.connections vc ≡ Some next) leads found;
      counts = λ verdict. refl;
    })
run_adds first last (captured ∷ cells) ticks (here, after, polices, leads) wanted none led vc next found =
    let moment = captured.moment in
    let is_ready = same_state first polices.ready moment polices.first none polices.commands in
    let step : PolicesArrived first captured polices.rest (Some after) =
    subst (λ (ready : PoliceWorld). PolicesArrived ready captured polices.rest (Some after)) is_ready polices.policed in
    let own = connection_of_cell first.card captured.cell in
    let middle = after_cell first captured step.given step.card in
    let is : after ≡ middle = same_Some after middle step.after in
    let leads' : RunsThrough police_rules middle cells last = subst (λ (w : PoliceWorld). RunsThrough police_rules w cells last) is leads in
    let led' = room_led first.card step.card captured.cell moment step.given led step.taken in
    let there = ticks_at first.spans moment ∙ wanted in
    let later = run_adds middle last cells ticks leads' there none led' vc next found in
    let gain = room_gains first.card step.card captured.cell moment step.given led step.taken vc later.connection later.found in
    record {
      connection = gain.connection;
      found = gain.found;
      counts = λ verdict.
          let a = later.counts verdict in
          let b = gain.own verdict in
          let c = after_one (spans_at first.spans moment) ticks own step.given vc verdict there in
          let d = at_moment first.spans moment vc verdict in
          omega (arith, a, b, c, d);
    }

pub spans_add_up : SpansAddUp
spans_add_up scope nanoseconds tick rules card cells last every led runs vc connection found =
    let first = police_start scope tick rules card [] in
    let wanted : first.spans.ticks ≡ Some (ticks_of_span nanoseconds tick) = ap (option_map (λ asked. ticks_of_span asked tick)) every in
    let adds = run_adds first last cells (ticks_of_span nanoseconds tick) runs wanted refl led vc connection found in
    (adds.connection, adds.found, λ verdict. let counts = adds.counts verdict in let none = no_cells vc verdict in omega (arith, counts, none))
