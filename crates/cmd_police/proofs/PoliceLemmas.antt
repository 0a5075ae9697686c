-- How a run of `police` goes on.
use Rattle.std.proofs.Common.{◌≡◌, ◌||◌, ℕ, Bool, true, false, if◌then◌else◌, List, [], ◌++◌, Option, Some, None, refl, sym, ap, ◌∙◌, subst, append_assoc}
use Rattle.captures.specs.declared.fault.Fault.{Fault}
use Rattle.card_core.specs.Agreement.{CoreView}
use Rattle.card_core.specs.declared.answer.Answer.{Answer}
use Rattle.card_core.specs.declared.shape.Shape.{Shape}
use Rattle.captures_text.specs.CellFollowing.{FollowsCell}
use Rattle.captures_text.specs.RunLines.{closing_lines}
use Rattle.captures_text.specs.declared.line_choice.LineChoice.{LineChoice}
use Rattle.captures_text.specs.declared.captured_cell.CapturedCell.{CapturedCell}
use Rattle.captures_text.specs.declared.reading_summary.ReadingSummary.{ReadingSummary}
use Rattle.gen_arena.specs.declared.id.Id.{Id}
use Rattle.leaky.specs.declared.excess.Excess.{Excess}
use Rattle.text_io.specs.declared.machine.Turn.TheVariants.{GoesOn}
use Rattle.upc_cell.specs.Connection.{vc_of}
use Rattle.upc_cell.specs.Header.{has_low_priority}
use Rattle.text_io.specs.Words.{is_filled}
use Rattle.upc_cell.specs.declared.side.Side.{Side}
use Rattle.upc_cell.specs.declared.vc.Vc.{Vc}
use Rattle.cmd_run.specs.RunText.{IsLed}
use Rattle.cmd_setups.specs.CommandsUnderTraffic.{CarriesOutWaiting, waiting_comment}
use Rattle.cmd_setups.specs.ConnectionCounts.{counts_heading, counts_lines}
use Rattle.cmd_setups.specs.NotJudgedCells.{not_judged_after, not_judged_lines}
use Rattle.cmd_police.specs.PoliceLines.{excess_of_answer, has_line}
use Rattle.cmd_police.specs.RuleColumn.{ShownRules}
use Rattle.cmd_police.specs.StoredRules.{shown_stored}
use Rattle.cmd_setups.specs.RunComments.{run_comments}
use Rattle.cmd_police.specs.PoliceText.{CarriesOutDue, PoliceWorld, PolicesArrived, after_cell, policed_text, has_lines_before, police_closes, police_gap, police_rules}
use Rattle.cmd_setups.specs.CellsTaken.{connection_of_cell}
use Rattle.cmd_setups.specs.SpanCounts.{SpansWorld, ended_text, is_begun_after, present_text, spans_after, spans_at}
use Rattle.cmd_setups.specs.declared.not_judged.NotJudged.{NotJudged}
use Rattle.cmd_police.specs.declared.police.PoliceRun.{PoliceRun}
use Rattle.cmd_setups.specs.TimedLines.{WaitingCommand}
use Rattle.cmd_setups.specs.declared.timed_card.TimedCard.{TimedCard}
use Rattle.cmd_setups.specs.CardArrival.{ArrivesWithRoom}
use Rattle.cmd_setups.specs.CommandsShown.{CarriesShown, CarriesTo}
use Rattle.cmd_setups.specs.StoredCommands.{waiting_in}
use Rattle.cmd_setups.specs.inner.ExcessLeft.{LeavesConnection}
use Rattle.cmd_setups.proofs.StartLemmas.{room_starts}
use Rattle.cmd_setups.proofs.CommandLemmas.{room_names}
use Rattle.cmd_setups.proofs.LeftLemmas.{room_leaves}
use Rattle.cmd_setups.specs.declared.spans.Spans.{Spans}
use Rattle.cmd_police.specs.inner.PoliceShown.{AddsCell, ShowsPolice, headed_line, lined}
use Rattle.cmd_setups.specs.SpansShown.{ShowsSpans, own_begun_after, own_ended_text, own_text}
use Rattle.cmd_setups.proofs.SpanLemmas.{begun_same, ended_same, text_same}

-- The spans go on to this moment, with the text about the one that ends.
pub record SpansGoOn (before : Spans) (moment : ℕ) (after : Spans) (old new : List ℕ) : Type 0 where
  pub added : new ≡ old ++ own_ended_text before moment
  pub spans : (spans : SpansWorld) → ShowsSpans before spans → ShowsSpans after (spans_at spans moment)

-- A cell of this connection is counted, with this answer.
abbrev pub SpansCount : Spans → Vc → Answer → Spans → Type 0
SpansCount before vc given after = (spans : SpansWorld) → ShowsSpans before spans → ShowsSpans after (spans_after spans vc given)

-- A text that has a line only if it is wanted depends on its excess only then.
lined_same : (wanted : Bool) (line : Option Excess → List ℕ) (one other : Option Excess) → (wanted ≡ true → one ≡ other)
    → (if wanted then line one else []) ≡ (if wanted then line other else [])
lined_same true line one other same = ap line (same refl)
lined_same false line one other same = refl

-- The answers grew by a text that answers a cell after the commands, from each state that was shown.
abbrev pub FollowsArrived : (PoliceWorld → Type 0) → CapturedCell → (PoliceWorld → Type 0) → List ℕ → List ℕ → Type 0
FollowsArrived shown captured shown' old new =
    (here : List ℕ) × (new ≡ old ++ here)
    × ((ready : PoliceWorld) → IsLed ready.card → shown ready → (after : PoliceWorld) × shown' after × PolicesArrived ready captured here (Some after))

-- The run after a cell.
abbrev run_after : PoliceRun → CoreView → Bool → Spans → NotJudged → PoliceRun
run_after before core has_heading spans not_judged = record before {
  timed = record before.timed { card = record before.timed.card { core = core } };
  has_heading = has_heading;
  spans = spans;
  not_judged = not_judged;
}

-- A cell that arrived, with the text for it.
pub polices_by : (before : PoliceRun) (core : CoreView) (given : Answer) (captured : CapturedCell)
    (has_heading : Bool) (at_moment spans : Spans) (not_judged : NotJudged) (old ended new : List ℕ)
    → SpansGoOn before.spans captured.moment at_moment old ended
    → ArrivesWithRoom before.timed.card.core captured.cell captured.moment (Some given) core
    → AddsCell before.timed.card.core.shape.side before.lines (shown_stored before.rules) before.has_heading captured (vc_of before.timed.card.core.shape.side captured.cell) given
    (record before.timed.card { core = core }) ended new has_heading
    → SpansCount at_moment (vc_of before.timed.card.core.shape.side captured.cell) given spans
    → not_judged ≡ not_judged_after before.not_judged captured.number given
    → FollowsArrived (ShowsPolice before) captured (ShowsPolice (run_after before core has_heading spans not_judged)) old new
polices_by before core given captured has_heading at_moment spans not_judged old ended new goes arrives adds more counts = (
  own_ended_text before.spans captured.moment
      ++ lined before.timed.card.core.shape.side before.lines (shown_stored before.rules) before.has_heading before.timed.card.names captured
      (vc_of before.timed.card.core.shape.side captured.cell) given adds.excess,
  adds.added
      ∙ ap (λ xs. xs ++ lined before.timed.card.core.shape.side before.lines (shown_stored before.rules) before.has_heading before.timed.card.names captured
      (vc_of before.timed.card.core.shape.side captured.cell) given adds.excess) goes.added
      ∙ append_assoc old (own_ended_text before.spans captured.moment) _,
  λ world led shown.
      let number = captured.number in
      let moment = captured.moment in
      let cell = captured.cell in
      let vc = vc_of before.timed.card.core.shape.side cell in
      let clp = has_low_priority cell in
      let on = arrives world.card led shown.timed.held.agrees in
      let same : given ≡ on.0 = let e : Some given ≡ Some on.0 = on.1 in cc in
      let here : vc ≡ connection_of_cell world.card cell = ap (λ (shape : Shape). vc_of shape.side cell) shown.timed.held.agrees.shape in
      let leaves : LeavesConnection world.card.world.connections on.2.world.connections vc clp given =
      subst (λ (v : Vc). LeavesConnection world.card.world.connections on.2.world.connections v clp given) (sym here)
      (subst (λ (a : Answer). LeavesConnection world.card.world.connections on.2.world.connections (connection_of_cell world.card cell) clp a) (sym same)
      (room_leaves world.card on.2 cell moment on.0 led on.3)) in
      let rules = shown_stored before.rules in
      let names = before.timed.card.names in
      let Text : Side → LineChoice → ShownRules → List Id → Bool → Vc → Answer → List ℕ = λ side lines rules names has_heading vc given.
      lined side lines rules has_heading names captured vc given (excess_of_answer world.card.world vc clp given) in
      let text : lined before.timed.card.core.shape.side before.lines rules before.has_heading names captured vc given adds.excess ≡ policed_text world captured on.0 =
      lined_same (has_line before.lines given) (λ excess. headed_line before.timed.card.core.shape.side rules before.has_heading names captured vc given excess)
      adds.excess (excess_of_answer world.card.world vc clp given) (λ wanted. adds.right wanted world.card.world on.2.world on.4 leaves)
      ∙ ap (λ (shape : Shape). Text shape.side before.lines rules names before.has_heading vc given) shown.timed.held.agrees.shape
      ∙ ap (λ (lines : LineChoice). Text world.card.world.shape.side lines rules names before.has_heading vc given) shown.lines
      ∙ ap (λ (rules : ShownRules). Text world.card.world.shape.side world.lines rules names before.has_heading vc given) shown.rules
      ∙ ap (λ (names : List Id). Text world.card.world.shape.side world.lines world.rules names before.has_heading vc given) shown.timed.held.names
      ∙ ap (λ b. Text world.card.world.shape.side world.lines world.rules world.card.names b vc given) shown.has_heading
      ∙ ap (λ (v : Vc). Text world.card.world.shape.side world.lines world.rules world.card.names world.has_heading v given) here
      ∙ ap (λ (a : Answer). Text world.card.world.shape.side world.lines world.rules world.card.names world.has_heading (connection_of_cell world.card cell) a) same
      in (
        after_cell world captured on.0 on.2,
        record {
          lines = shown.lines;
          rules = shown.rules;
          tick = shown.tick;
          timed = record {
            held = record { agrees = on.4; names = shown.timed.held.names ∙ room_names world.card on.2 cell moment on.0 on.3 };
            at_setup = room_starts world.card on.2 cell moment on.0 before.timed.at_setup.counts.items led on.3 shown.timed.at_setup;
            waits = shown.timed.waits;
          };
          commanded = shown.commanded;
          has_heading = adds.written ∙ ap (λ b. b || has_line before.lines given) shown.has_heading ∙ ap (λ (lines : LineChoice). world.has_heading || has_line lines given) shown.lines
              ∙ ap (λ (a : Answer). world.has_heading || has_line world.lines a) same;
          spans = subst (λ (v : Vc). ShowsSpans spans (spans_after (spans_at world.spans moment) v on.0)) here
              (subst (λ (a : Answer). ShowsSpans spans (spans_after (spans_at world.spans moment) vc a)) same
              (more (spans_at world.spans moment) (goes.spans world.spans shown.spans)));
          not_judged = counts ∙ ap (λ (cells : NotJudged). not_judged_after cells number given) shown.not_judged
              ∙ ap (λ (a : Answer). not_judged_after world.not_judged number a) same;
        },
        record {
          given = on.0;
          card = on.2;
          taken = on.3;
          written = ap (λ xs. xs ++ lined before.timed.card.core.shape.side before.lines rules before.has_heading names captured vc given adds.excess) (ended_same before.spans world.spans moment shown.spans)
              ∙ ap (λ xs. ended_text world.spans moment ++ xs) text;
          after = refl;
        },
      ),
)

-- No represented card leaves a cell without an answer.
pub polices_never : (before after : PoliceRun) (core : CoreView) (captured : CapturedCell) (at_moment : Spans) (old new : List ℕ)
    → SpansGoOn before.spans captured.moment at_moment old new
    → ArrivesWithRoom before.timed.card.core captured.cell captured.moment None core → FollowsArrived (ShowsPolice before) captured (ShowsPolice after) old new
polices_never before after core captured at_moment old new goes arrives =
    (own_ended_text before.spans captured.moment, goes.added, λ world led shown. let on = arrives world.card led shown.timed.held.agrees in let no = on.1 in cc)

-- The run after commands.
abbrev pub run_commanded : PoliceRun → TimedCard → Bool → PoliceRun
run_commanded before timed commanded = record before { timed = timed; commanded = commanded }

-- A state after commands is one that the run shows after them.
commanded_state : (before : PoliceRun) (timed : TimedCard) (moment : ℕ) (carried commanded : Bool) (text : List ℕ) (world : PoliceWorld) → carried ≡ is_filled text
    → commanded ≡ (before.commanded || carried) → ShowsPolice before world → CarriesTo world.card (waiting_in before.timed.commands) moment text timed
    → (ready : PoliceWorld) × ShowsPolice (run_commanded before timed commanded) ready × IsLed ready.card × CarriesOutDue world moment text ready
commanded_state before timed moment carried commanded text world filled either shown to =
    let left = waiting_in timed.commands in (
      record world { card = to.after; waiting = left; commanded = world.commanded || is_filled text },
      record {
        lines = shown.lines;
        rules = shown.rules;
        tick = shown.tick;
        timed = record { held = to.shown; at_setup = to.at_setup; waits = refl };
        commanded = either ∙ ap (λ b. before.commanded || b) filled ∙ ap (λ b. b || is_filled text) shown.commanded;
        has_heading = shown.has_heading;
        spans = shown.spans;
        not_judged = shown.not_judged;
      },
      to.led,
      record {
        card = to.after;
        left = left;
        carried = subst (λ (waiting : List WaitingCommand). CarriesOutWaiting waiting moment world.card text to.after left) shown.timed.waits to.carried;
        is = refl;
      },
    )

-- A cell after the commands whose moment has come.
pub polices_after : (before : PoliceRun) (timed : TimedCard) (carried commanded : Bool) (captured : CapturedCell) (shown' : PoliceWorld → Type 0) (old middle new : List ℕ)
    → CarriesShown before.timed captured.moment carried timed old middle → commanded ≡ (before.commanded || carried)
    → FollowsArrived (ShowsPolice (run_commanded before timed commanded)) captured shown' middle new
    → FollowsCell police_rules (ShowsPolice before) captured GoesOn shown' old new
polices_after before timed carried commanded captured shown' old middle new carries either follows = (
  carries.0 ++ follows.0,
  follows.1 ∙ ap (λ xs. xs ++ follows.0) carries.1 ∙ append_assoc old carries.0 follows.0,
  λ world led shown.
      let state = commanded_state before timed captured.moment carried commanded carries.0 world carries.2 either shown (carries.3 world.card led shown.timed.held shown.timed.at_setup) in
      let on = follows.2 state.0 state.2 state.1 in (
        on.0,
        on.1,
        record { first = carries.0; ready = state.0; commands = state.3; rest = follows.0; policed = on.2; whole = refl },
      ),
)

-- The parts of the end, one after another.
joined : (old spans gap heading counts cells waiting comments closing : List ℕ)
    → ((((((old ++ spans) ++ gap) ++ (heading ++ counts)) ++ cells) ++ waiting) ++ comments) ++ closing
    ≡ old ++ (spans ++ (gap ++ (heading ++ (counts ++ (cells ++ (waiting ++ (comments ++ closing)))))))
joined old spans gap heading counts cells waiting comments closing =
    append_assoc (((((old ++ spans) ++ gap) ++ (heading ++ counts)) ++ cells) ++ waiting) comments closing
    ∙ append_assoc ((((old ++ spans) ++ gap) ++ (heading ++ counts)) ++ cells) waiting (comments ++ closing)
    ∙ append_assoc (((old ++ spans) ++ gap) ++ (heading ++ counts)) cells (waiting ++ (comments ++ closing))
    ∙ append_assoc ((old ++ spans) ++ gap) (heading ++ counts) (cells ++ (waiting ++ (comments ++ closing)))
    ∙ append_assoc (old ++ spans) gap ((heading ++ counts) ++ (cells ++ (waiting ++ (comments ++ closing))))
    ∙ append_assoc old spans (gap ++ ((heading ++ counts) ++ (cells ++ (waiting ++ (comments ++ closing)))))
    ∙ ap (λ xs. old ++ (spans ++ (gap ++ xs))) (append_assoc heading counts (cells ++ (waiting ++ (comments ++ closing))))

-- The end of a capture.
pub closes_by : (run : PoliceRun) (world : PoliceWorld) (summary : ReadingSummary) (ending : Option Fault) (old one two three four five six new : List ℕ)
    → ShowsPolice run world → one ≡ old ++ own_text run.spans
    → two ≡ one ++ police_gap ((run.has_heading || own_begun_after run.spans) || run.commanded) → three ≡ two ++ (counts_heading ++ counts_lines world.card.world)
    → four ≡ three ++ not_judged_lines run.not_judged → five ≡ four ++ waiting_comment (waiting_in run.timed.commands)
    → six ≡ five ++ run_comments run.tick.nanoseconds summary → new ≡ six ++ closing_lines summary ending
    → new ≡ old ++ police_closes world summary ending
closes_by run world summary ending old one two three four five six new shown zeroth first second third waits fourth last =
    let after = own_begun_after run.spans in
    let here = own_text run.spans in
    let gap = police_gap ((run.has_heading || after) || run.commanded) in
    let counts = counts_lines world.card.world in
    let closing = closing_lines summary ending in
    let waiting = waiting_comment (waiting_in run.timed.commands) in
    let Closes : List ℕ → Bool → NotJudged → List WaitingCommand → ℕ → List ℕ = λ here has_heading cells commands tick.
    old ++ (here ++ (police_gap has_heading ++ (counts_heading ++ (counts ++ (not_judged_lines cells ++ (waiting_comment commands ++ (run_comments tick summary ++ closing))))))) in
    let left = waiting_in run.timed.commands in
    last ∙ ap (λ xs. xs ++ closing) (fourth ∙ ap (λ xs. xs ++ run_comments run.tick.nanoseconds summary) (waits ∙ ap (λ xs. xs ++ waiting)
    (third ∙ ap (λ xs. xs ++ not_judged_lines run.not_judged)
    (second ∙ ap (λ xs. xs ++ (counts_heading ++ counts)) (first ∙ ap (λ xs. xs ++ gap) zeroth)))))
    ∙ joined old here gap counts_heading counts (not_judged_lines run.not_judged) waiting (run_comments run.tick.nanoseconds summary) closing
    ∙ ap (λ here. Closes here ((run.has_heading || after) || run.commanded) run.not_judged left run.tick.nanoseconds) (text_same run.spans world.spans shown.spans)
    ∙ ap (λ b. Closes (present_text world.spans) ((b || after) || run.commanded) run.not_judged left run.tick.nanoseconds) shown.has_heading
    ∙ ap (λ b. Closes (present_text world.spans) ((world.has_heading || b) || run.commanded) run.not_judged left run.tick.nanoseconds) (begun_same run.spans world.spans shown.spans)
    ∙ ap (λ b. Closes (present_text world.spans) ((world.has_heading || is_begun_after world.spans) || b) run.not_judged left run.tick.nanoseconds) shown.commanded
    ∙ ap (λ (cells : NotJudged). Closes (present_text world.spans) (has_lines_before world) cells left run.tick.nanoseconds) shown.not_judged
    ∙ ap (λ (commands : List WaitingCommand). Closes (present_text world.spans) (has_lines_before world) world.not_judged commands run.tick.nanoseconds) shown.timed.waits
    ∙ ap (λ tick. Closes (present_text world.spans) (has_lines_before world) world.not_judged world.waiting tick) shown.tick
