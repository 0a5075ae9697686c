-- The card of a setup script, asked cell by cell.
use Rattle.std.proofs.Common.{◌≡◌, ℕ, Bool, List, ◌++◌, Option, Some, None, refl, sym, ap, subst, ◌∙◌, append_assoc}
use Rattle.std.specs.Global.{Vec}
use Rattle.text_io.specs.Words.{is_filled}
use Rattle.captures.specs.declared.fault.Fault.{Fault}
use Rattle.card_core.specs.Agreement.{CoreView}
use Rattle.card_core.specs.declared.answer.Answer.{Answer}
use Rattle.captures_text.specs.RunLines.{closing_lines}
use Rattle.captures_text.specs.declared.captured_cell.CapturedCell.{CapturedCell}
use Rattle.captures_text.specs.declared.reading_summary.ReadingSummary.{ReadingSummary}
use Rattle.leaky.specs.declared.verdict.Verdict.{Verdict}
use Rattle.cmd_run.specs.RunText.{IsLed}
use Rattle.cmd_setups.specs.CommandsUnderTraffic.{CarriesOutWaiting, waiting_comment}
use Rattle.cmd_setups.specs.ConnectionCounts.{counts_heading, counts_lines}
use Rattle.cmd_setups.specs.NotJudgedCells.{not_judged_after, not_judged_lines}
use Rattle.cmd_setups.specs.RunComments.{run_comments}
use Rattle.cmd_police.specs.PolicedCards.{PolicedWorld, PolicesOneCell, ShowsPoliced, policed_report}
use Rattle.cmd_setups.specs.Columns.{verdict_given}
use Rattle.cmd_police.specs.PoliceText.{police_gap}
use Rattle.cmd_setups.specs.TimedLines.{WaitingCommand}
use Rattle.cmd_setups.specs.declared.not_judged.NotJudged.{NotJudged}
use Rattle.cmd_police.specs.declared.policed_card.PolicedCard.{PolicedCard}
use Rattle.cmd_setups.specs.declared.timed_card.TimedCard.{TimedCard}
use Rattle.cmd_setups.specs.CardArrival.{ArrivesWithRoom}
use Rattle.cmd_setups.specs.CommandsShown.{CarriesShown}
use Rattle.cmd_setups.proofs.StartLemmas.{room_starts}
use Rattle.cmd_setups.proofs.CommandLemmas.{room_names}
use Rattle.cmd_setups.specs.StoredCommands.{waiting_in}

-- The stored card after a cell.
abbrev policed_after : PolicedCard → TimedCard → CoreView → Vec ℕ → NotJudged → PolicedCard
policed_after before timed core answers not_judged = record before {
  timed = record timed { card = record timed.card { core = core } };
  answers = answers;
  not_judged = not_judged;
}

-- A cell that arrived after the commands whose moment had come.
pub polices_cell : (before : PolicedCard) (timed : TimedCard) (core : CoreView) (answers : Vec ℕ) (given : Answer) (captured : CapturedCell) (not_judged : NotJudged)
    (carried : Bool) (verdict : Option Verdict)
    → CarriesShown before.timed captured.moment carried timed before.answers.items answers.items
    → ArrivesWithRoom timed.card.core captured.cell captured.moment (Some given) core
    → not_judged ≡ not_judged_after before.not_judged captured.number given → verdict ≡ verdict_given given
    → (world : PolicedWorld) → IsLed world.card → ShowsPoliced before world
    → (after : PolicedWorld) × ShowsPoliced (policed_after before timed core answers not_judged) after × PolicesOneCell world captured verdict after
polices_cell before timed core answers given captured not_judged carried verdict carries arrives counts gives world led shown =
    let to = carries.3 world.card led shown.timed.held shown.timed.at_setup in
    let on = arrives to.after to.led to.shown.agrees in
    let same : given ≡ on.0 = let e : Some given ≡ Some on.0 = on.1 in cc in
    let left = waiting_in timed.commands in
    let after : PolicedWorld = record { card = on.2; waiting = left; answers = answers.items; tick = world.tick; not_judged = not_judged } in (
      after,
      record {
        timed = record {
          held = record { agrees = on.4; names = to.shown.names ∙ room_names to.after on.2 captured.cell captured.moment on.0 on.3 };
          at_setup = room_starts to.after on.2 captured.cell captured.moment on.0 timed.at_setup.counts.items to.led on.3 to.at_setup;
          waits = refl;
        };
        answers = refl;
        tick = shown.tick;
        not_judged = refl;
      },
      record {
        lines = carries.0;
        ready = to.after;
        carried = subst (λ (waiting : List WaitingCommand). CarriesOutWaiting waiting captured.moment world.card carries.0 to.after left) shown.timed.waits to.carried;
        answered = carries.1 ∙ ap (λ xs. xs ++ carries.0) shown.answers;
        given = on.0;
        taken = on.3;
        verdict_is = gives ∙ ap verdict_given same;
        counts = counts ∙ ap (λ (cells : NotJudged). not_judged_after cells captured.number given) shown.not_judged
            ∙ ap (λ (a : Answer). not_judged_after world.not_judged captured.number a) same;
        same = refl;
      },
    )

-- No represented card leaves a cell without an answer.
pub polices_no_cell : (before after : PolicedCard) (timed : TimedCard) (core : CoreView) (captured : CapturedCell) (carried : Bool) (verdict : Option Verdict) (old new : List ℕ)
    → CarriesShown before.timed captured.moment carried timed old new
    → ArrivesWithRoom timed.card.core captured.cell captured.moment None core
    → (world : PolicedWorld) → IsLed world.card → ShowsPoliced before world
    → (next : PolicedWorld) × ShowsPoliced after next × PolicesOneCell world captured verdict next
polices_no_cell before after timed core captured carried verdict old new carries arrives world led shown =
    let to = carries.3 world.card led shown.timed.held shown.timed.at_setup in
    let on = arrives to.after to.led to.shown.agrees in let no = on.1 in cc

-- The parts of the report, one after another.
joined : (old lines gap heading counts cells waiting comments closing : List ℕ)
    → ((((((old ++ lines) ++ gap) ++ (heading ++ counts)) ++ cells) ++ waiting) ++ comments) ++ closing
    ≡ old ++ (lines ++ (gap ++ (heading ++ (counts ++ (cells ++ (waiting ++ (comments ++ closing)))))))
joined old lines gap heading counts cells waiting comments closing =
    append_assoc (((((old ++ lines) ++ gap) ++ (heading ++ counts)) ++ cells) ++ waiting) comments closing
    ∙ append_assoc ((((old ++ lines) ++ gap) ++ (heading ++ counts)) ++ cells) waiting (comments ++ closing)
    ∙ append_assoc (((old ++ lines) ++ gap) ++ (heading ++ counts)) cells (waiting ++ (comments ++ closing))
    ∙ append_assoc ((old ++ lines) ++ gap) (heading ++ counts) (cells ++ (waiting ++ (comments ++ closing)))
    ∙ append_assoc (old ++ lines) gap ((heading ++ counts) ++ (cells ++ (waiting ++ (comments ++ closing))))
    ∙ append_assoc old lines (gap ++ ((heading ++ counts) ++ (cells ++ (waiting ++ (comments ++ closing)))))
    ∙ ap (λ xs. old ++ (lines ++ (gap ++ xs))) (append_assoc heading counts (cells ++ (waiting ++ (comments ++ closing))))

-- The report.
pub reports_by : (policed : PolicedCard) (world : PolicedWorld) (summary : ReadingSummary) (ending : Option Fault) (old one two three four five six new : List ℕ)
    → ShowsPoliced policed world
    → one ≡ old ++ policed.answers.items → two ≡ one ++ police_gap (is_filled policed.answers.items)
    → three ≡ two ++ (counts_heading ++ counts_lines world.card.world) → four ≡ three ++ not_judged_lines policed.not_judged
    → five ≡ four ++ waiting_comment (waiting_in policed.timed.commands)
    → six ≡ five ++ run_comments policed.tick.nanoseconds summary → new ≡ six ++ closing_lines summary ending → new ≡ old ++ policed_report world summary ending
reports_by policed world summary ending old one two three four five six new shown zeroth first second third waits fourth last =
    let lines = policed.answers.items in
    let counts = counts_lines world.card.world in
    let closing = closing_lines summary ending in
    let left = waiting_in policed.timed.commands in
    let Whole : List ℕ → NotJudged → List WaitingCommand → ℕ → List ℕ = λ lines cells commands tick.
    old ++ (lines ++ (police_gap (is_filled lines) ++ (counts_heading ++ (counts ++ (not_judged_lines cells ++ (waiting_comment commands
    ++ (run_comments tick summary ++ closing))))))) in
    last ∙ ap (λ xs. xs ++ closing) (fourth ∙ ap (λ xs. xs ++ run_comments policed.tick.nanoseconds summary) (waits ∙ ap (λ xs. xs ++ waiting_comment left)
    (third ∙ ap (λ xs. xs ++ not_judged_lines policed.not_judged) (second ∙ ap (λ xs. xs ++ (counts_heading ++ counts))
    (first ∙ ap (λ xs. xs ++ police_gap (is_filled lines)) zeroth)))))
    ∙ joined old lines (police_gap (is_filled lines)) counts_heading counts (not_judged_lines policed.not_judged) (waiting_comment left)
    (run_comments policed.tick.nanoseconds summary) closing
    ∙ ap (λ xs. Whole xs policed.not_judged left policed.tick.nanoseconds) shown.answers
    ∙ ap (λ (cells : NotJudged). Whole world.answers cells left policed.tick.nanoseconds) shown.not_judged
    ∙ ap (λ (commands : List WaitingCommand). Whole world.answers world.not_judged commands policed.tick.nanoseconds) shown.timed.waits
    ∙ ap (λ tick. Whole world.answers world.not_judged world.waiting tick) shown.tick
